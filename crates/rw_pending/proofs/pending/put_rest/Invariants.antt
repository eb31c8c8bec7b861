use Rattle.std.proofs.Common.{◌++◌, IsPermutation, length}
use Rattle.rw_pending.proofs.pending.put_rest.Given as goal

abbrev pub invariant-events : goal.invariant-events
invariant-events g l = IsPermutation (l.fn.initial ++ l.fn.later) (l.initial' ++ l.later)

abbrev pub decreases-events : goal.decreases-events
decreases-events g l = length l.initial'
