use Rattle.rw_report.specs.declared.columns.Caches.TheVariants.{Edges, Origins, All}
use Rattle.rw_report.specs.Sums.{sums_line}
use Rattle.rw_report.proofs.Lines.{three-calls}
use Rattle.rw_report.proofs.cache_table.write_all_sums.Goals as goal

pub returns : goal.returns
returns c =
    let k = c.args.config.now in
    let s = c.args.sums.now in
    three-calls c.write_sums-3.result c.args.text.now.items (sums_line k s Edges) (sums_line k s Origins) (sums_line k s All)
    _ _ _ c.in_ok-write_sums.ensures c.in_ok-write_sums-2.ensures c.write_sums-3.ensures
