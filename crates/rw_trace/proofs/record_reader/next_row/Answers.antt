use Rattle.std.proofs.Common.{◌≡◌, ◌∷◌, length, rules, subst}
use Rattle.rw_trace.proofs.Ahead.{read-row}
use Rattle.rw_trace.specs.Lines.{IsRowAt}
use Rattle.rw_trace.proofs.Piecewise.{where_none}
use Rattle.rw_trace.proofs.record_reader.next_row.Goals as goal

pub returns-in-Some-plain_row-clause-row : goal.returns-in-Some-plain_row-clause-row
returns-in-Some-plain_row-clause-row g c =
    let row = subst (λ xs. IsRowAt c.args.version c.args.edges xs 0 c.in-Some-plain_row.row c.in-Some-plain_row.next) c.deref.ensures.value c.in-Some-plain_row.ensures in
    let whole : c.in-Some-plain_row.next ≡ length c.read_line.new.line.items = search rules in (
      row.field ∷ row.others,
      read-row c.args.version c.args.edges _ _ _ c.read_line.new.line.items c.in-Some-plain_row.row c.in-Some-plain_row.next (where_none c.in_default.is c.in_ok-row.ensures.none) c.in_ok-read_line.ensures.read row whole,
      row.written,
    )
