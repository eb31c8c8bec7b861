use Rattle.std.proofs.Common.{◌≡◌, ◌≤◌, ◌+◌, List, length}
use Rattle.rw_trace.specs.declared.Row.{Row}
use Rattle.rw_trace.specs.Limits.{latest_time}
use Rattle.rw_trace.specs.Pieces.{ComeFirst, RiseFrom, last_time}
use Rattle.rw_report.specs.History.{IsRecordingOf}
use Rattle.rw_report.proofs.streaming.record_stream.Given as goal

abbrev pub invariant-pieces : goal.invariant-pieces
invariant-pieces g l =
    (done : List Row)
    × IsRecordingOf done l.recording
    × ComeFirst (g.S.RowSource.rest l.fn.rows).ahead done (g.S.RowSource.rest l.rows).ahead
    × RiseFrom 0 done
    × ((g.S.RowSource.rest l.rows).latest ≡ last_time 0 done)
    × (l.recording.run.time ≡ (g.S.RowSource.rest l.rows).latest)
    × ((g.S.RowSource.rest l.rows).latest ≤ latest_time)
    × ((g.S.RowSource.rest l.rows).edges ≡ l.config.edges)
    × (length done + (g.S.RowSource.rest l.rows).most ≡ (g.S.RowSource.rest l.fn.rows).most)
    × (l.recording.run.config ≡ l.config)
    × (l.recording.start ≡ l.fn.marks.start)
    × (l.recording.every ≡ l.fn.marks.every)

abbrev pub decreases-pieces : goal.decreases-pieces
decreases-pieces g l = (g.S.RowSource.rest l.rows).most
