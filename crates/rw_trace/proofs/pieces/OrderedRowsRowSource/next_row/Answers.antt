use Rattle.std.proofs.Common.{◌≡◌, ◌+◌, ◌-◌, [], ◌∷◌, refl, subst}
use Rattle.std.specs.Prelude.{option_map}
use Rattle.std.proofs.lemmas.Result.{err_from_is_err_and}
use Rattle.csv.specs.Records.{fields_of}
use Rattle.rw_trace.specs.Ahead.{still_ahead}
use Rattle.rw_trace.specs.Laws.{IsRow}
use Rattle.rw_trace.specs.Pieces.{AreAll, ComeFirst, IsRefusal, RowsAhead, ordered_rows_of}
use Rattle.rw_trace.specs.declared.TraceFault.TheVariants as fault
use Rattle.rw_trace.specs.declared.pieces.RowsFault.TheVariants as refused
use Rattle.rw_trace.proofs.Ahead.{fault-found, row-found, some-found}
use Rattle.rw_trace.proofs.Laws.{row-in_range}
use Rattle.rw_trace.proofs.Piecewise.{many_ahead, none_ahead, order_ahead, row_ahead, wrong_ahead}
use Rattle.rw_trace.proofs.pieces.OrderedRowsRowSource.next_row.Goals as goal

pub returns-in-End-clause-none : goal.returns-in-End-clause-none
returns-in-End-clause-none g c =
    let was = c.self.inside in
    let before = still_ahead g.R.Read.remaining was.records.source in
    let none = rw c.in-End.is at c.in_ok-found.ensures.found in
    subst (λ (v : RowsAhead). AreAll v.ahead [] × (was.latest ≡ v.latest) × ((was.most - was.number) ≡ v.most)) c.self.view_is
    (none_ahead was.version was.edges was.most was.number was.latest before none, refl, refl)

pub returns-then-self-clause-refused : goal.returns-then-self-clause-refused
returns-then-self-clause-refused g c =
    let was = c.self.inside in
    let before = still_ahead g.R.Read.remaining was.records.source in
    let after = still_ahead g.R.Read.remaining c.next.new.self.source in
    let some = some-found was.version was.edges before (fields_of c.next.new.self.fields) after c.in_ok-found.found c.in_ok-found.ensures.found c.in_default.not-End in
    subst (λ (v : RowsAhead). IsRefusal v.ahead (refused.Trace fault.TooManyRows)) c.self.view_is
    (many_ahead was.version was.edges was.most was.number was.latest some.0 before after some.1 c.if-self.true)

pub returns-in_err-row-clause-refused : goal.returns-in_err-row-clause-refused
returns-in_err-row-clause-refused g c =
    let was = c.self.inside in
    let before = still_ahead g.R.Read.remaining was.records.source in
    let after = still_ahead g.R.Read.remaining c.next.new.self.source in
    let p = err_from_is_err_and c.from_residual-in_err-row.result c.from_residual-in_err-row.ensures.1 in
    let e = c.in_err-row.field-0.0 in
    let wrong = fault-found was.version was.edges before (fields_of c.next.new.self.fields) after was.number c.in_ok-found.found c.in_ok-found.ensures.found c.in_default.not-End e c.in_err-row.ensures.wrong in
    rw (p.1, p.2, wrong.1.1)
    (subst (λ (v : RowsAhead). IsRefusal v.ahead (refused.Trace wrong.1.0)) c.self.view_is
    (wrong_ahead was.version was.edges was.most was.number was.latest wrong.0 before after wrong.1.0 wrong.1.2 c.if-self.false wrong.1.3))

pub returns-then-row-self-clause-refused : goal.returns-then-row-self-clause-refused
returns-then-row-self-clause-refused g c =
    let was = c.self.inside in
    let before = still_ahead g.R.Read.remaining was.records.source in
    let after = still_ahead g.R.Read.remaining c.next.new.self.source in
    let row = row-found was.version was.edges before (fields_of c.next.new.self.fields) after c.in_ok-found.found c.in_ok-found.ensures.found c.in_default.not-End c.in_ok-row.row c.in_ok-row.ensures.row in
    subst (λ (v : RowsAhead). IsRefusal v.ahead (refused.Trace (fault.Order was.number))) c.self.view_is
    (order_ahead was.version was.edges was.most was.number was.latest row.0 c.in_ok-row.row row.2 c.if-self.false before after row.1 c.if-row-self.true)

pub returns-clause-first : goal.returns-clause-first
returns-clause-first g c =
    let was = c.self.inside in
    let before = still_ahead g.R.Read.remaining was.records.source in
    let after = still_ahead g.R.Read.remaining c.next.new.self.source in
    let row = row-found was.version was.edges before (fields_of c.next.new.self.fields) after c.in_ok-found.found c.in_ok-found.ensures.found c.in_default.not-End c.in_ok-row.row c.in_ok-row.ensures.row in
    subst (λ (v : RowsAhead). ComeFirst v.ahead (c.in_ok-row.row ∷ []) (option_map (ordered_rows_of was.version was.edges was.most (was.number + 1) c.in_ok-row.row.time) after)) c.self.view_is
    (row_ahead was.version was.edges was.most was.number was.latest row.0 c.in_ok-row.row row.2 c.if-self.false before after row.1 c.if-row-self.false)

pub returns-clause-range : goal.returns-clause-range
returns-clause-range g c =
    let was = c.self.inside in
    let before = still_ahead g.R.Read.remaining was.records.source in
    let after = still_ahead g.R.Read.remaining c.next.new.self.source in
    let row = row-found was.version was.edges before (fields_of c.next.new.self.fields) after c.in_ok-found.found c.in_ok-found.ensures.found c.in_default.not-End c.in_ok-row.row c.in_ok-row.ensures.row in
    subst (λ (v : RowsAhead). IsRow v.edges c.in_ok-row.row) c.self.view_is (row-in_range was.version was.edges row.0 c.in_ok-row.row row.2)
