-- With the log's columns, its records are its rows.
use Rattle.std.proofs.Common.{◌∙◌, List, ap, inl, inr, subst, sym}
use Rattle.std.proofs.lemmas.Result.{IfOk-from_err, MatchResult-weaker, err_from_is_err_and, on_ok_weaker}
use Rattle.rw_trace.specs.Unread.{unread}
use Rattle.rw_trace.specs.Words.{Fields}
use Rattle.rw_import.specs.Csv.{columns_found, have_their_lines, log_records, rows_under}
use Rattle.rw_import.specs.CsvStream.{IsColumnsFault}
use Rattle.rw_import.specs.Log.{first_time}
use Rattle.rw_import.proofs.InMemory.{known-steady}
use Rattle.rw_import.proofs.Collecting.{said-whole}
use Rattle.rw_import.proofs.csv_log.first_of.Goals as goal

pub returns-in_err-places-clause-least : goal.returns-in_err-places-clause-least
returns-in_err-places-clause-least g c = IfOk-from_err c.from_residual.result _ c.from_residual.ensures.0

pub returns-in_err-places-clause-fault : goal.returns-in_err-places-clause-fault
returns-in_err-places-clause-fault g c =
    let p = err_from_is_err_and c.from_residual.result c.from_residual.ensures.1 in
    let all = (known-steady c.open-reader.result (log_records c.args.layout.now c.args.bytes.now) c.open-reader.ensures.may c.open-reader.ensures.all).1 in
    rw (p.1, p.2) (λ other. subst (λ (rs : List Fields). IsColumnsFault c.args.layout.now rs c.in_err-places.field-0.0) all (c.in_err-places.ensures.fault other))

pub returns-clause-least : goal.returns-clause-least
returns-clause-least g c =
    let all = (known-steady c.open-reader.result (log_records c.args.layout.now c.args.bytes.now) c.open-reader.ensures.may c.open-reader.ensures.all).1 in
    let places = ap (λ (rs : List Fields). columns_found c.args.layout.now rs) (sym all) ∙ c.in_ok-places.ensures.places in
    let rows = ap (λ (rs : List Fields). rows_under c.args.layout.now rs) (sym all) ∙ c.in_ok-places.ensures.rows in
    let whole = said-whole c.args.layout.now c.args.options c.args.bytes.now c.in_ok-places.places (unread c.start_in_memory.new.reader) c.args.edges places rows c.requires in
    MatchResult-weaker c.least_left.result c.least_left.ensures.least (λ t e. e ∙ ap first_time whole) (λ e p. p)

pub returns-clause-fault : goal.returns-clause-fault
returns-clause-fault g c =
    let all = (known-steady c.open-reader.result (log_records c.args.layout.now c.args.bytes.now) c.open-reader.ensures.may c.open-reader.ensures.all).1 in
    let lines = ap (λ (rs : List Fields). have_their_lines c.args.layout.now.quotes rs) (sym all) ∙ c.in_ok-places.ensures.lines in
    MatchResult-weaker c.least_left.result c.least_left.ensures.refused (λ t p. p)
    (λ e why other. elim why [ inl memory ↦ absurd (other memory) | inr unclosed ↦ inl (unclosed.0, unclosed.1, lines ∙ unclosed.2) ])

pub returns-clause-lines : goal.returns-clause-lines
returns-clause-lines g c =
    let all = (known-steady c.open-reader.result (log_records c.args.layout.now c.args.bytes.now) c.open-reader.ensures.may c.open-reader.ensures.all).1 in
    let lines = ap (λ (rs : List Fields). have_their_lines c.args.layout.now.quotes rs) (sym all) ∙ c.in_ok-places.ensures.lines in
    on_ok_weaker c.least_left.result (λ (h : _). lines ∙ h) c.least_left.ensures.lines

pub start_in_memory-requires-clause-steady : goal.start_in_memory-requires-clause-steady
start_in_memory-requires-clause-steady g c = (known-steady c.open-reader.result (log_records c.args.layout.now c.args.bytes.now) c.open-reader.ensures.may c.open-reader.ensures.all).0
