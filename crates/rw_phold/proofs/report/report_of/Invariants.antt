use Rattle.std.proofs.Common.{◌≡◌, fold, take}
use Rattle.rw_phold.specs.Reports.{no_report_yet, with_holder}
use Rattle.rw_phold.proofs.report.report_of.Given as goal

abbrev pub invariant-loop-holder : goal.invariant-loop-holder
invariant-loop-holder l = l.report ≡ fold with_holder no_report_yet (take l.holder-index l.holders)
