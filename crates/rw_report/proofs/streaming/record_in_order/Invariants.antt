use Rattle.std.proofs.Common.{◌≡◌, ◌≤◌, ◌++◌, List, length}
use Rattle.std.specs.Prelude.{All}
use Rattle.rw_trace.specs.declared.Row.{Row}
use Rattle.rw_trace.specs.Laws.{IsRow}
use Rattle.rw_trace.specs.Limits.{latest_time}
use Rattle.rw_trace.specs.Pieces.{RiseFrom}
use Rattle.rw_report.specs.History.{IsRecordingOf}
use Rattle.rw_report.proofs.streaming.record_in_order.Given as goal

abbrev pub invariant-pieces : goal.invariant-pieces
invariant-pieces g l =
    (done : List Row)
    × (l.rows ≡ done ++ l.rest)
    × IsRecordingOf done l.recorded
    × (l.recorded.run.config ≡ l.fn.recording.run.config)
    × (l.recorded.start ≡ l.fn.recording.start)
    × (l.recorded.every ≡ l.fn.recording.every)
    × RiseFrom l.recorded.run.time l.rest
    × (l.recorded.run.time ≤ latest_time)
    × All (IsRow l.recorded.run.config.edges) l.rest

abbrev pub decreases-pieces : goal.decreases-pieces
decreases-pieces g l = length l.rest
