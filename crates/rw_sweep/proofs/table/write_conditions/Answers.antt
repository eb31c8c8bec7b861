use Rattle.std.proofs.Common.{◌≡◌, ◌∷◌, ◌++◌, [], ap, subst, ◌∙◌}
use Rattle.std.specs.Prelude.{OnOk}
use Rattle.rw_report.specs.Columns.{columns_of}
use Rattle.rw_sweep.specs.Facts.{span_from}
use Rattle.rw_sweep.specs.Table.{daily_writes, if_some}
use Rattle.rw_sweep.proofs.ThreeLines.{three-pieces}
use Rattle.rw_sweep.proofs.table.write_conditions.Goals as goal

pub returns : goal.returns
returns c =
    let p = c.args.point.now in
    let m = c.args.measured in
    let start = c.unwrap_or-start.ensures in
    let counted = c.span_from-counted.ensures ∙ ap (span_from p.facts) start in
    let rate = c.daily_writes.ensures ∙ ap (λ s. daily_writes p.ticks_a_second s m.flash_bytes m.written_bytes) counted in
    let warm_up = c.from.ensures ∙ start in
    let ticks = c.from-2.ensures ∙ c.unwrap_or.ensures in
    let span = c.from-4.ensures ∙ c.span.ensures in
    let last = subst (λ ns. OnOk c.write_columns.result (c.write_columns.new.text.items ≡ c.write_if_some.new.text.items ++ columns_of ns))
    (λ i. c.reclaim_number.ensures i ∷ warm_up i ∷ ticks i ∷ c.from-3.ensures i ∷ span i ∷ c.from-5.ensures i ∷ []) c.write_columns.ensures in
    three-pieces c.write_columns.result c.args.text.now.items (44 ∷ []) _ _ _ _ _ c.in_ok-push.ensures.items (c.in_ok-write_if_some.ensures ∙ ap (λ o. c.push.new.self.items ++ if_some o) rate) last
