use Rattle.std.proofs.Common.{◌≡◌, ◌+◌, List, suc, ap, arith, get_or, sym, take_all, ◌∙◌}
use Rattle.rw_photo.specs.declared.counters.Counters.{Counters}
use Rattle.rw_photo.specs.Counts.{no_counts, sum_of}
use Rattle.rw_report.specs.Report.{totals}
use Rattle.rw_report.proofs.Lines.{totals-more}
use Rattle.rw_report.proofs.columns.totals.Goals as goal

pub loop-counters-preserved : goal.loop-counters-preserved
loop-counters-preserved c =
    let all : List Counters = c.args.all.now in
    let n = c.loop-counters.counters-index in
    let next : n + 1 ≡ suc n = omega arith in
    rw next (c.add.ensures ∙ ap (λ t. sum_of t (get_or all n no_counts)) c.loop-counters.invariant ∙ sym (totals-more n all no_counts c.loop-counters-test.true))

pub returns : goal.returns
returns c =
    let all : List Counters = c.args.all.now in
    c.loop-counters.invariant ∙ ap totals (take_all c.loop-counters.counters-index all c.loop-counters-test.false)
