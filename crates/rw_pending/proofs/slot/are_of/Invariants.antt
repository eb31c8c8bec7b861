use Rattle.std.proofs.Common.{◌≡◌, All, take}
use Rattle.rw_pending.proofs.slot.are_of.Given as goal

abbrev pub invariant-loop-event : goal.invariant-loop-event
invariant-loop-event g l = All (λ e. e.time ≡ l.time) (take l.event-index l.events)
