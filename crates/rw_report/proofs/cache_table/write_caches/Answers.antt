use Rattle.std.proofs.Common.{◌≡◌, ◌++◌, subst}
use Rattle.std.specs.Prelude.{OnOk}
use Rattle.rw_report.specs.declared.sums.Sums.{Sums}
use Rattle.rw_report.specs.Formats.{each_line, sums_lines, sums_of}
use Rattle.rw_report.proofs.Lines.{two-calls}
use Rattle.rw_report.proofs.cache_table.write_caches.Goals as goal

pub returns : goal.returns
returns c =
    let k = c.args.config.now in
    let all = c.args.all.now in
    let sums = subst (λ (s : Sums). OnOk c.write_all_sums.result (c.write_all_sums.new.text.items ≡ c.write_each.new.text.items ++ sums_lines k s)) c.sums_of.ensures c.write_all_sums.ensures in
    two-calls c.write_all_sums.result c.args.text.now.items (each_line k 0 all) (sums_lines k (sums_of k all))
    _ _ c.in_ok-write_each.ensures sums
