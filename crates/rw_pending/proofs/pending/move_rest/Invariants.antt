use Rattle.std.proofs.Common.{◌≡◌, ◌++◌, length}
use Rattle.rw_pending.proofs.pending.move_rest.Given as goal

abbrev pub invariant-events : goal.invariant-events
invariant-events g l = l.taken.items ++ l.initial' ≡ l.fn.taken.items ++ l.fn.initial

abbrev pub decreases-events : goal.decreases-events
decreases-events g l = length l.initial'
