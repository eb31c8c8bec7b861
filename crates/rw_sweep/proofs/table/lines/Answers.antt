use Rattle.std.proofs.Common.{◌≡◌, ℕ, List, ap, ◌∙◌, take, drop, length, min, arith}
use Rattle.std.proofs.lemmas.List.{drop_min, take_min}
use Rattle.rw_photo.specs.declared.counters.Counters.{Counters}
use Rattle.rw_report.specs.Report.{totals}
use Rattle.rw_sweep.specs.Parts.{before_line}
use Rattle.rw_sweep.specs.Table.{conditions}
use Rattle.rw_sweep.proofs.ThreeLines.{three-lines}
use Rattle.rw_sweep.proofs.table.lines.Goals as goal

pub returns : goal.returns
returns c =
    let all : List Counters = c.args.all.now in
    let edges : ℕ = c.args.point.now.config.edges in
    let first : c.min-edges.result ≡ min edges (length all) = omega arith in
    let front = c.split_at.ensures.front ∙ ap (λ n. take n all) first ∙ take_min edges all in
    let back = c.split_at.ensures.back ∙ ap (λ n. drop n all) first ∙ drop_min edges all in
    let p = c.args.point.now in
    three-lines (before_line p.place) p.config p.choice (conditions p.ticks_a_second c.args.warm_up p.facts) all c.totals-edges.result c.totals-origins.result c.totals-all.result _ _ _ _ c.new-text.ensures.items
    (c.totals-edges.ensures ∙ ap totals front) (c.totals-origins.ensures ∙ ap totals back)
    c.totals-all.ensures c.in_ok-write_placed.ensures c.in_ok-write_placed-2.ensures c.in_ok-write_placed-3.ensures
