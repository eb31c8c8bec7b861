use Rattle.std.proofs.Common.{◌≡◌, ◌++◌, drop, take}
use Rattle.rw_models.specs.Recorded.{new_records, states_of}
use Rattle.rw_models.proofs.recorded.clear_all.Given as goal

abbrev pub invariant-loop-record : goal.invariant-loop-record
invariant-loop-record g l = l.record-items ≡ new_records (states_of (take l.record-index l.initial.record-items)) ++ drop l.record-index l.initial.record-items
