use Rattle.std.proofs.Common.{◌≡◌, ◌<◌, ◌++◌, All, IsPermutation, take}
use Rattle.rw_pending.proofs.pending.put_apart.Given as goal

abbrev pub invariant-loop-event : goal.invariant-loop-event
invariant-loop-event g l = IsPermutation (take l.event-index l.events) (l.start.items ++ l.later) × All (λ e. e.time ≡ 0) l.start.items × All (λ e. 0 < e.time) l.later
