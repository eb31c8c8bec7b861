-- With the log's columns, its records are its rows.
use Rattle.std.proofs.Common.{◌∙◌, List, ap, inr, map, subst, sym}
use Rattle.std.specs.Prelude.{Result}
use Rattle.std.proofs.lemmas.Result.{MatchResult-weaker, err_from_is_err_and}
use Rattle.rw_trace.specs.Unread.{unread}
use Rattle.rw_trace.specs.Words.{Fields, Text}
use Rattle.rw_import.specs.Csv.{IsTableFault, columns_found, log_records, csv_told, number_among, objects_in, rows_under}
use Rattle.rw_import.specs.CsvStream.{IsColumnsFault}
use Rattle.rw_import.specs.Log.{IsRowsFault, Saying}
use Rattle.rw_import.specs.Sheet.{IsSheetOf}
use Rattle.rw_import.specs.declared.fault.ImportFault.{ImportFault}
use Rattle.rw_import.specs.declared.layout.Places.{Places}
use Rattle.rw_import.proofs.InMemory.{known-steady}
use Rattle.rw_import.proofs.Collecting.{columns-missing, edges-asked, told-whole}
use Rattle.rw_import.proofs.csv_log.collect.Goals as goal

pub rows_left-requires-clause-none : goal.rows_left-requires-clause-none
rows_left-requires-clause-none g c = ap (λ (vs : _). map (λ v. v.items) vs) c.with_hasher-texts.ensures.empty

pub rows_left-requires-clause-edges : goal.rows_left-requires-clause-edges
rows_left-requires-clause-edges g c none =
    edges-asked c.args.layout.now c.args.options (unread c.open-reader.result) c.in_ok-places.places c.args.edges c.in_ok-places.ensures.places c.requires.edges none

pub returns-clause-sheet : goal.returns-clause-sheet
returns-clause-sheet g c =
    let o = c.args.options in
    let all = (known-steady c.open-reader.result (log_records c.args.layout.now c.args.bytes.now) c.open-reader.ensures.may c.open-reader.ensures.all).1 in
    let places = ap (λ (rs : List Fields). columns_found c.args.layout.now rs) (sym all) ∙ c.in_ok-places.ensures.places in
    let rows = ap (λ (rs : List Fields). rows_under c.args.layout.now rs) (sym all) ∙ c.in_ok-places.ensures.rows in
    let whole = told-whole c.args.layout.now o c.args.bytes.now c.in_ok-places.places (unread c.start_in_memory.new.reader) c.args.edges c.args.least places rows c.requires.edges c.requires.least in
    MatchResult-weaker c.rows_left.result c.rows_left.ensures.sheet
    (λ s k. subst (λ (l : List (Saying Text)). IsSheetOf (number_among (objects_in l)) c.args.edges o c.args.least l s) whole k) (λ e p. p)

pub returns-clause-found : goal.returns-clause-found
returns-clause-found g c =
    let all = (known-steady c.open-reader.result (log_records c.args.layout.now c.args.bytes.now) c.open-reader.ensures.may c.open-reader.ensures.all).1 in
    let places = ap (λ (rs : List Fields). columns_found c.args.layout.now rs) (sym all) ∙ c.in_ok-places.ensures.places in
    MatchResult-weaker c.rows_left.result c.rows_left.ensures.sheet (λ s k. (c.in_ok-places.places, places)) (λ e p. p)

pub returns-clause-fault : goal.returns-clause-fault
returns-clause-fault g c =
    let o = c.args.options in
    let all = (known-steady c.open-reader.result (log_records c.args.layout.now c.args.bytes.now) c.open-reader.ensures.may c.open-reader.ensures.all).1 in
    let places = ap (λ (rs : List Fields). columns_found c.args.layout.now rs) (sym all) ∙ c.in_ok-places.ensures.places in
    let rows = ap (λ (rs : List Fields). rows_under c.args.layout.now rs) (sym all) ∙ c.in_ok-places.ensures.rows in
    let told = csv_told c.args.layout.now o c.args.bytes.now in
    let whole = told-whole c.args.layout.now o c.args.bytes.now c.in_ok-places.places (unread c.start_in_memory.new.reader) c.args.edges c.args.least places rows c.requires.edges c.requires.least in
    MatchResult-weaker c.rows_left.result c.rows_left.ensures.fault (λ s p. p)
    (λ e k other. inr (subst (λ (r : Result Places ImportFault). IsTableFault o told r e) (sym places) (subst (λ (l : List (Saying Text)). IsRowsFault o l e) whole (k other))))

pub start_in_memory-requires-clause-steady : goal.start_in_memory-requires-clause-steady
start_in_memory-requires-clause-steady g c = (known-steady c.open-reader.result (log_records c.args.layout.now c.args.bytes.now) c.open-reader.ensures.may c.open-reader.ensures.all).0

pub returns-in_err-places-clause-fault : goal.returns-in_err-places-clause-fault
returns-in_err-places-clause-fault g c =
    let p = err_from_is_err_and c.from_residual.result c.from_residual.ensures.1 in
    let all = (known-steady c.open-reader.result (log_records c.args.layout.now c.args.bytes.now) c.open-reader.ensures.may c.open-reader.ensures.all).1 in
    rw (p.1, p.2) (λ other. columns-missing c.args.layout.now c.args.options c.args.bytes.now _ (subst (λ (rs : List Fields). IsColumnsFault c.args.layout.now rs c.in_err-places.field-0.0) all (c.in_err-places.ensures.fault other)))
