use Rattle.std.proofs.Common.{◌++◌, IsPermutation, take}
use Rattle.rw_pending.specs.Wheel.{AreInPlace, all_of}
use Rattle.rw_pending.proofs.wheel.put_all_in_place.Given as goal

abbrev pub invariant-loop-event : goal.invariant-loop-event
invariant-loop-event g l =
    (AreInPlace l.base l.fn.slots → AreInPlace l.base l.slots) × IsPermutation ((all_of l.fn.slots ++ l.fn.others) ++ take l.event-index l.events) (all_of l.slots ++ l.others)
