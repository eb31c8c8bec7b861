use Rattle.std.proofs.Common.{◌++◌, IsPermutation, length}
use Rattle.rw_pending.specs.Later.{IsLeft}
use Rattle.rw_pending.proofs.later.Later.move_to.Given as goal

abbrev pub invariant-loop-time : goal.invariant-loop-time
invariant-loop-time g l = IsPermutation (l.fn.rest.items ++ l.fn.self) (l.rest.items ++ l.self) × IsLeft l.fn.self l.self

abbrev pub decreases-loop-time : goal.decreases-loop-time
decreases-loop-time g l = length l.self
