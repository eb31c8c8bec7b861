use Rattle.std.proofs.Common.{All, IfOk}
use Rattle.rw_sweep.specs.Working.{AreSlots, IsEntryOf}
use Rattle.rw_sweep.proofs.working.place_others.Given as goal

abbrev pub invariant-loop-entries : goal.invariant-loop-entries
invariant-loop-entries l = record {
  slots : AreSlots l.rows l.points l.slots.items;
  others : All (λ r. IfOk r (λ es. All (IsEntryOf l.rows l.points) es.items)) l.entries-iterator.rest.items;
}
