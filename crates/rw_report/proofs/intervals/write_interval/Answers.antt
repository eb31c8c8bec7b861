use Rattle.std.proofs.Common.{◌++◌, List, ℕ, ap, ◌∙◌, subst}
use Rattle.std.specs.Prelude.{OnOk, ◌≡◌}
use Rattle.rw_report.specs.declared.columns.Caches.TheVariants.{Edges, Origins, All}
use Rattle.rw_report.specs.declared.sums.Sums.{Sums}
use Rattle.rw_report.specs.Intervals.{interval_start, sums_between}
use Rattle.rw_report.specs.Sums.{sums_line}
use Rattle.rw_report.proofs.Lines.{three-pairs}
use Rattle.rw_report.proofs.intervals.write_interval.Goals as goal

pub returns : goal.returns
returns c =
    let k = c.args.config.now in
    let start : List ℕ = interval_start c.args.before.now c.args.from.now c.args.to.now in
    let sums : Sums = sums_between k c.args.from.now c.args.to.now in
    let same = c.sums_between-sums.ensures in
    let edges = c.in_ok-write_sums.ensures ∙ ap (λ (s : Sums). c.write_start.new.text.items ++ sums_line k s Edges) same in
    let origins = c.in_ok-write_sums-2.ensures ∙ ap (λ (s : Sums). c.write_start-2.new.text.items ++ sums_line k s Origins) same in
    let all = subst (λ (s : Sums). OnOk c.write_sums-3.result (c.write_sums-3.new.text.items ≡ c.write_start-3.new.text.items ++ sums_line k s All)) same c.write_sums-3.ensures in
    three-pairs c.write_sums-3.result c.args.text.now.items start (sums_line k sums Edges) start (sums_line k sums Origins) start (sums_line k sums All)
    _ _ _ _ _ _ c.in_ok-write_start.ensures edges c.in_ok-write_start-2.ensures origins c.in_ok-write_start-3.ensures all
