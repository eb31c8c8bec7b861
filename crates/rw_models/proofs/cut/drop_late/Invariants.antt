use Rattle.std.proofs.Common.{◌≡◌, ◌≤◌, ◌++◌, take, drop, length}
use Rattle.rw_models.specs.Until.{events_before}
use Rattle.rw_models.proofs.cut.drop_late.Given as goal

abbrev pub invariant-loop-at : goal.invariant-loop-at
invariant-loop-at g l = record {
  behind : l.kept ≤ l.at;
  long : length l.events.items ≡ l.at-end;
  is : take l.kept l.events.items ++ events_before l.end (drop l.at l.events.items)
      ≡ take l.from l.initial.events.items ++ events_before l.end (drop l.from l.initial.events.items);
}
