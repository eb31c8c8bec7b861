use Rattle.std.proofs.Common.{◌≡◌, take}
use Rattle.rw_vt.specs.System.{flatten}
use Rattle.rw_models.specs.Recorded.{executed_of}
use Rattle.rw_models.proofs.recorded.all_executed.Given as goal

abbrev pub invariant-loop-record : goal.invariant-loop-record
invariant-loop-record g l = l.events.items ≡ flatten (executed_of (take l.record-index l.records))
