-- With the least time, what is collected is what the log means; objects are numbered by their texts.
use Rattle.std.proofs.Common.{◌∙◌, ◌≡◌, ℕ, List, map, subst, sym}
use Rattle.std.proofs.lemmas.Result.{MatchResult-weaker, err_from_is_err_and}
use Rattle.rw_trace.specs.declared.Row.{Row}
use Rattle.rw_import.specs.Csv.{HaveOneNumberEach, csv_said, csv_rows_unspread, csv_told, number_among, objects_in}
use Rattle.rw_import.specs.Log.{IsErrorOfLosses, row_counts, first_time, kept_in}
use Rattle.rw_import.specs.declared.entry.Counts.{Counts}
use Rattle.rw_import.specs.declared.layout.Layout.{Layout}
use Rattle.rw_import.specs.declared.options.Options.{Options}
use Rattle.rw_import.specs.Sheet.{IsTextSheet}
use Rattle.rw_import.specs.Written.{BeginsWithHeader, has_purge}
use Rattle.rw_import.proofs.Collecting.{columns-missing, csv-lost, csv-trace, rows-numbers}
use Rattle.rw_import.specs.Spread.{spread_if}
use Rattle.rw_import.proofs.Sheets.{sheet-counts, sheet-times}
use Rattle.rw_import.proofs.Whole.{csv-whole, spread-asked}
use Rattle.rw_import.proofs.Texts.{one-number-each}
use Rattle.rw_import.proofs.csv_log.import_csv.Goals as goal

-- two rows of a log have one number exactly where their objects are the same text
numbered : (l : Layout) (o : Options) (bytes : List ℕ) → HaveOneNumberEach (objects_in (csv_told l o bytes)) (map (λ r. r.object) (csv_rows_unspread l o bytes))
numbered l o bytes =
    let told = csv_told l o bytes in
    subst (λ (ns : List ℕ). HaveOneNumberEach (objects_in told) ns) (sym (rows-numbers o (first_time (csv_said l o bytes)) (number_among (objects_in told)) 0 (kept_in told))) (one-number-each (objects_in told))

pub returns-in_err-least-clause-objects : goal.returns-in_err-least-clause-objects
returns-in_err-least-clause-objects g c = numbered c.args.layout.now c.args.options.now c.args.bytes.now

pub returns-in_err-sheet-clause-objects : goal.returns-in_err-sheet-clause-objects
returns-in_err-sheet-clause-objects g c = numbered c.args.layout.now c.args.options.now c.args.bytes.now

pub returns-in_err-check_losses-clause-objects : goal.returns-in_err-check_losses-clause-objects
returns-in_err-check_losses-clause-objects g c = numbered c.args.layout.now c.args.options.now c.args.bytes.now

pub returns-in_err-check_losses-clause-fault : goal.returns-in_err-check_losses-clause-fault
returns-in_err-check_losses-clause-fault g c =
    let p = err_from_is_err_and c.from_residual-in_err-check_losses.result c.from_residual-in_err-check_losses.ensures.1 in
    let counts : c.counts_of.result ≡ row_counts (csv_told c.args.layout.now c.args.options.now c.args.bytes.now) = c.counts_of.ensures ∙ sheet-counts c.in_ok-sheet.ensures.sheet in
    rw (p.1, p.2) (λ other. csv-lost c.args.layout.now c.args.options.now c.args.bytes.now _ c.in_ok-sheet.ensures.found (subst (λ (n : Counts). IsErrorOfLosses c.args.options.now n c.in_err-check_losses.field-0.0) counts c.in_err-check_losses.ensures.too_few))

pub returns-clause-clamped : goal.returns-clause-clamped
returns-clause-clamped g c = MatchResult-weaker c.finish.result c.finish.ensures.clamped (λ i w. w ∙ c.in_ok-sheet.ensures.sheet.clamped) (λ e p. p)

pub returns-clause-objects : goal.returns-clause-objects
returns-clause-objects g c = numbered c.args.layout.now c.args.options.now c.args.bytes.now

pub returns-clause-trace : goal.returns-clause-trace
returns-clause-trace g c =
    let l = c.args.layout.now in
    let o = c.args.options.now in
    let bytes = c.args.bytes.now in
    let k = subst (λ (t : ℕ). IsTextSheet c.edges_of-edges.result o t (csv_told l o bytes) c.in_ok-sheet.sheet) c.in_ok-least.ensures.least c.in_ok-sheet.ensures.sheet in
    MatchResult-weaker c.finish.result c.finish.ensures.trace
    (λ i w. csv-trace l o bytes i.text.items c.in_ok-sheet.sheet c.edges_of-edges.result c.edges_of-edges.ensures o.some_edges o.few_edges k w) (λ e p. p)

pub returns-clause-header : goal.returns-clause-header
returns-clause-header g c =
    let l = c.args.layout.now in
    let o = c.args.options.now in
    let bytes = c.args.bytes.now in
    let k = subst (λ (t : ℕ). IsTextSheet c.edges_of-edges.result o t (csv_told l o bytes) c.in_ok-sheet.sheet) c.in_ok-least.ensures.least c.in_ok-sheet.ensures.sheet in
    MatchResult-weaker c.finish.result c.finish.ensures.header
    (λ i w. subst (λ (rs : List Row). BeginsWithHeader (has_purge (spread_if o rs)) i.text.items) k.rows w) (λ e p. p)

pub returns-clause-kept : goal.returns-clause-kept
returns-clause-kept g c = MatchResult-weaker c.finish.result c.finish.ensures.kept (λ i w. w ∙ c.in_ok-sheet.ensures.sheet.count) (λ e p. p)

pub returns-clause-left_out : goal.returns-clause-left_out
returns-clause-left_out g c = MatchResult-weaker c.finish.result c.finish.ensures.left_out (λ i w. w ∙ c.in_ok-sheet.ensures.sheet.left_out) (λ e p. p)

pub returns-clause-strict : goal.returns-clause-strict
returns-clause-strict g c = MatchResult-weaker c.finish.result c.finish.ensures.kept (λ i w. c.in_ok-sheet.ensures.sheet.strict) (λ e p. p)

pub returns-clause-fault : goal.returns-clause-fault
returns-clause-fault g c = MatchResult-weaker c.finish.result c.finish.ensures.refused (λ i p. p) (λ e memory other. absurd (other memory))

pub returns-in_err-least-clause-fault : goal.returns-in_err-least-clause-fault
returns-in_err-least-clause-fault g c =
    let p = err_from_is_err_and c.from_residual.result c.from_residual.ensures.1 in
    rw (p.1, p.2) (λ other. columns-missing c.args.layout.now c.args.options.now c.args.bytes.now _ (c.in_err-least.ensures.fault other))

pub returns-in_err-sheet-clause-fault : goal.returns-in_err-sheet-clause-fault
returns-in_err-sheet-clause-fault g c =
    let p = err_from_is_err_and c.from_residual-in_err-sheet.result c.from_residual-in_err-sheet.ensures.1 in
    rw (p.1, p.2) c.in_err-sheet.ensures.fault

pub finish-requires : goal.finish-requires
finish-requires g c = sheet-times c.in_ok-sheet.ensures.sheet

pub returns-in_err-least-clause-spread : goal.returns-in_err-least-clause-spread
returns-in_err-least-clause-spread g c asked = spread-asked c.args.options.now (csv_rows_unspread c.args.layout.now c.args.options.now c.args.bytes.now) c.args.options.now.some_ticks asked

pub returns-in_err-least-clause-whole : goal.returns-in_err-least-clause-whole
returns-in_err-least-clause-whole g c wanted = csv-whole c.args.layout.now c.args.options.now c.args.bytes.now wanted

pub returns-in_err-sheet-clause-spread : goal.returns-in_err-sheet-clause-spread
returns-in_err-sheet-clause-spread g c asked = spread-asked c.args.options.now (csv_rows_unspread c.args.layout.now c.args.options.now c.args.bytes.now) c.args.options.now.some_ticks asked

pub returns-in_err-sheet-clause-whole : goal.returns-in_err-sheet-clause-whole
returns-in_err-sheet-clause-whole g c wanted = csv-whole c.args.layout.now c.args.options.now c.args.bytes.now wanted

pub returns-in_err-check_losses-clause-spread : goal.returns-in_err-check_losses-clause-spread
returns-in_err-check_losses-clause-spread g c asked = spread-asked c.args.options.now (csv_rows_unspread c.args.layout.now c.args.options.now c.args.bytes.now) c.args.options.now.some_ticks asked

pub returns-in_err-check_losses-clause-whole : goal.returns-in_err-check_losses-clause-whole
returns-in_err-check_losses-clause-whole g c wanted = csv-whole c.args.layout.now c.args.options.now c.args.bytes.now wanted

pub returns-clause-spread : goal.returns-clause-spread
returns-clause-spread g c asked = spread-asked c.args.options.now (csv_rows_unspread c.args.layout.now c.args.options.now c.args.bytes.now) c.args.options.now.some_ticks asked

pub returns-clause-whole : goal.returns-clause-whole
returns-clause-whole g c wanted = csv-whole c.args.layout.now c.args.options.now c.args.bytes.now wanted
