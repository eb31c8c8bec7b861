use Rattle.std.proofs.Common.{take}
use Rattle.rw_pending.specs.Later.{IsLeastOr, never}
use Rattle.rw_pending.proofs.slot.least_of.Given as goal

abbrev pub invariant-loop-event : goal.invariant-loop-event
invariant-loop-event g l = IsLeastOr never (take l.event-index l.events) l.least
