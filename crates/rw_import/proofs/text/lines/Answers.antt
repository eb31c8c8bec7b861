-- The lines grow by that of a row.
use Rattle.std.proofs.Common.{◌∙◌, ap, sym}
use Rattle.std.proofs.lemmas.List.{append-nil, take_all}
use Rattle.rw_import.specs.Lines.{trace_header, trace_lines}
use Rattle.rw_import.proofs.Reread.{lines-more}
use Rattle.rw_import.proofs.text.lines.Goals as goal

pub loop-row-init : goal.loop-row-init
loop-row-init c = c.in_ok-text.ensures.items ∙ c.header.ensures ∙ sym (append-nil (trace_header c.args.kinds))

pub loop-row-preserved : goal.loop-row-preserved
loop-row-preserved c =
    lines-more c.args.kinds c.args.rows.now c.loop-row.row-index _ c.loop-row.text.items c.push_row.new.text.items c.loop-row-test.true c.loop-row.invariant c.in_ok-push_row.ensures

pub returns : goal.returns
returns c = c.loop-row.invariant ∙ ap (trace_lines c.args.kinds) (take_all c.loop-row.row-index c.args.rows.now c.loop-row-test.false)
