use Rattle.std.proofs.Common.{All}
use Rattle.rw_sweep.specs.Working.{AreSlots, IsEntryOf}
use Rattle.rw_sweep.proofs.working.place_all.Given as goal

abbrev pub invariant-loop-entry : goal.invariant-loop-entry
invariant-loop-entry l = record {
  slots : AreSlots l._rows l._points l.slots.items;
  entries : All (IsEntryOf l._rows l._points) l.entry-iterator.rest.items;
}
