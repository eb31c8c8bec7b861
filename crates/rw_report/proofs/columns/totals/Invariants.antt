use Rattle.std.proofs.Common.{◌≡◌, take}
use Rattle.rw_report.specs.Report.{totals}
use Rattle.rw_report.proofs.columns.totals.Given as goal

abbrev pub invariant-loop-counters : goal.invariant-loop-counters
invariant-loop-counters l = l.total ≡ totals (take l.counters-index l.all)
