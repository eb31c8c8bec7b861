use Rattle.std.proofs.Common.{◌≡◌, ◌≤◌, ◌+◌, ◌-◌, ◌++◌, List}
use Rattle.rw_trace.specs.declared.Row.{Row}
use Rattle.rw_report.specs.History.{IsRecordingOf, next_mark}
use Rattle.rw_report.proofs.recording.Recording.feed_piece.Given as goal

abbrev pub invariant-marks : goal.invariant-marks
invariant-marks l = record {
  config : l.recording.run.config ≡ l.fn.self.run.config;
  start : l.recording.start ≡ l.fn.self.start;
  every : l.recording.every ≡ l.fn.self.every;
  time : l.recording.run.time ≤ l.until;
  fed : (before : List Row) → IsRecordingOf before l.fn.self → IsRecordingOf (before ++ l.fn.rows.items) l.recording;
}

abbrev pub decreases-marks : goal.decreases-marks
decreases-marks l = (l.until + 1) - next_mark l.recording
