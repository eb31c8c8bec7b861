use Rattle.std.proofs.Common.{◌++◌, IsPermutation, take}
use Rattle.rw_pending.proofs.pending.put_all.Given as goal

abbrev pub invariant-loop-event : goal.invariant-loop-event
invariant-loop-event g l = IsPermutation (l.fn.later ++ take l.event-index l.events) l.later
