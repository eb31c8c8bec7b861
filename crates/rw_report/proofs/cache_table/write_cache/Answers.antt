use Rattle.std.proofs.Common.{◌++◌, List, ℕ, ap, ◌∙◌, codes}
use Rattle.rw_photo.specs.declared.counters.Counters.{Counters}
use Rattle.rw_report.specs.declared.columns.Measured.{Measured}
use Rattle.rw_report.specs.Columns.{measured_columns}
use Rattle.rw_report.specs.Formats.{measured_at}
use Rattle.rw_report.specs.Report.{name_of}
use Rattle.rw_report.proofs.Lines.{three-pieces}
use Rattle.rw_report.proofs.cache_table.write_cache.Goals as goal

pub returns : goal.returns
returns c =
    let config = c.args.config.now in
    let p = c.args.process in
    let k : Counters = c.args.counters.now in
    let text : List ℕ = c.args.text.now.items in
    let counts = c.in_ok-write_counts.ensures ∙ ap (λ (m : Measured). c.write_name.new.text.items ++ measured_columns k m) c.measured_at.ensures in
    three-pieces text (name_of config p) (measured_columns k (measured_at config p k)) (codes "\n")
    _ _ _ c.in_ok-write_name.ensures counts c.in_ok-push.ensures.items
