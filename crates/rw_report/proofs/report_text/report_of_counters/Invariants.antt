use Rattle.std.proofs.Common.{◌≡◌, take}
use Rattle.rw_report.specs.Report.{cache_lines, totals}
use Rattle.rw_report.proofs.report_text.report_of_counters.Given as goal

abbrev pub invariant-loop-process : goal.invariant-loop-process
invariant-loop-process l = record {
  lines : l.text.items ≡ cache_lines l.config 0 (take l.process l.all);
  total : l.total ≡ totals (take l.process l.all);
}
