use Rattle.std.proofs.Common.{◌≢◌, ◌+◌, ◌<◌, ℕ, [], ◌∷◌, Some, arith, refl, subst}
use Rattle.rw_trace.specs.Lines.{records_at}
use Rattle.rw_trace.specs.Pieces.{AreAll, ComeFirst, RowsAhead, ordered_rows_of}
use Rattle.rw_trace.proofs.Lines.{none-at, row-records}
use Rattle.rw_trace.proofs.Piecewise.{none_ahead, row_ahead}
use Rattle.rw_trace.proofs.plain_rows.PlainRowsRowSource.next_row.Goals as goal

other : (n most : ℕ) → n < most → n ≢ most
other n most less = λ same. absurd (omega (arith, same, less))

pub returns-then-self-clause-none : goal.returns-then-self-clause-none
returns-then-self-clause-none c =
    let was = c.self.inside in
    let none = none-at was.bytes.now was.at (omega (arith, c.if-self.true)) in
    let ends = none_ahead was.version was.edges was.most was.number was.latest (Some (records_at was.bytes.now was.at)) none in
    (subst (λ (v : RowsAhead). AreAll v.ahead []) c.self.view_is ends, refl, refl)

pub returns-in-Some-clause-first : goal.returns-in-Some-clause-first
returns-in-Some-clause-first c =
    let was = c.self.inside in
    let row = c.in-Some.row in
    let line = c.in-Some.ensures in
    let rest = records_at was.bytes.now c.in-Some.next in
    subst (λ (v : RowsAhead). ComeFirst v.ahead (row ∷ []) (Some (ordered_rows_of was.version was.edges was.most (was.number + 1) row.time rest))) c.self.view_is
    (row_ahead was.version was.edges was.most was.number was.latest (line.field ∷ line.others) row line.written (other was.number was.most (omega (arith, c.if-self-2.true)))
    (Some (records_at was.bytes.now was.at)) (Some rest) (row-records was.version was.edges was.bytes.now was.at row c.in-Some.next line) (omega (arith, c.if-self-row.true)))
