use Rattle.std.proofs.Common.{◌≡◌, ◌++◌, length}
use Rattle.rw_bag.proofs.bag.Bag.move_to.Given as goal

abbrev pub invariant-events : goal.invariant-events
invariant-events g l = l.out.items ++ l.self ≡ l.fn.out.items ++ l.fn.self

abbrev pub decreases-events : goal.decreases-events
decreases-events g l = length l.self
