use Rattle.std.proofs.Common.{◌≡◌, ◌≤◌, ◌+◌, ◌-◌, ◌^◌, List}
use Rattle.rw_trace.specs.declared.Row.{Row}
use Rattle.rw_report.specs.History.{IsRecordingOf, next_mark}
use Rattle.rw_report.proofs.Recorded.{HasPassed}
use Rattle.rw_report.proofs.recording.Recording.finish.Given as goal

abbrev pub invariant-marks : goal.invariant-marks
invariant-marks l = record {
  near : next_mark l.recording ≤ l.recording.run.time + 2 ^ 40;
  config : l.recording.run.config ≡ l.fn.self.run.config;
  start : l.recording.start ≡ l.fn.self.start;
  every : l.recording.every ≡ l.fn.self.every;
  passed : (rows : List Row) → IsRecordingOf rows l.fn.self → HasPassed rows l.recording;
}

abbrev pub decreases-marks : goal.decreases-marks
decreases-marks l = 2 ^ 43 - next_mark l.recording
