use Rattle.std.proofs.Common.{◌≡◌}
use Rattle.rw_models.specs.Recorded.{new_records}
use Rattle.rw_models.proofs.recorded.empty_records.Given as goal

abbrev pub invariant-loop-state : goal.invariant-loop-state
invariant-loop-state g l = l.records.items ≡ new_records l.yielded
