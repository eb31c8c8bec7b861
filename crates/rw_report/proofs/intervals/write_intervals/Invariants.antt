use Rattle.std.proofs.Common.{◌≡◌, ◌++◌, take}
use Rattle.rw_report.specs.Intervals.{lines_of}
use Rattle.rw_report.proofs.intervals.write_intervals.Given as goal

abbrev pub invariant-loop-next : goal.invariant-loop-next
invariant-loop-next l = l.text.items ≡ l.fn.text.items ++ lines_of l.config l.before (take l.next l.moments)
