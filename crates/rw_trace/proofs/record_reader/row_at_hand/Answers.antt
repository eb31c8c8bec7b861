use Rattle.std.proofs.Common.{◌∷◌, Some, length, refl, subst}
use Rattle.std.specs.Io.BufRead.{FillKeeps}
use Rattle.std.specs.Io.Buffered.{reader_buffer, reader_remaining}
use Rattle.rw_trace.proofs.Ahead.{near-row}
use Rattle.rw_trace.proofs.record_reader.row_at_hand.Goals as goal

pub returns-in-Some-clause-row : goal.returns-in-Some-clause-row
returns-in-Some-clause-row g c =
    let rested = c.fill_buf.follows.lender-at-none in
    let filled = subst (FillKeeps _ (reader_remaining g.R.Read.remaining rested) (Some (length (reader_buffer rested)))) c.in-Ok.is c.fill_buf.follows.holds-at-none in
    let drops = c.consume.ensures.bytes in
    let row = c.in-Some.ensures in (
      row.field ∷ row.others,
      near-row c.args.version c.args.edges _ _ _ _ c.in-Ok.bytes.now c.in-Some.row c.in-Some.next c.in-Ok.ensures.front filled.0 filled.1 drops row c.if-next-bytes.true _ refl,
      row.written,
    )
