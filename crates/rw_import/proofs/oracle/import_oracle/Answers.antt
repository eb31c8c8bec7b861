-- With the least time, what is collected is what the log means.
use Rattle.std.proofs.Common.{◌∙◌, ◌≡◌, List, subst}
use Rattle.std.proofs.lemmas.Result.{MatchResult-weaker, err_from_is_err_and}
use Rattle.rw_trace.specs.declared.Row.{Row}
use Rattle.rw_import.specs.Log.{IsErrorOfLosses, row_counts, first_time, kept_in}
use Rattle.rw_import.specs.declared.entry.Counts.{Counts}
use Rattle.rw_import.specs.Oracle.{oracle_rows_unspread, oracle_said, oracle_told}
use Rattle.rw_import.specs.Written.{BeginsWithHeader, has_purge}
use Rattle.rw_import.proofs.Sheets.{fault-whole, rows-lost, rows-objects, sheet-counts, sheet-times, sheet-trace, sheet-whole}
use Rattle.rw_import.specs.Spread.{spread_if}
use Rattle.rw_import.proofs.Whole.{oracle-whole, spread-asked}
use Rattle.rw_import.proofs.oracle.import_oracle.Goals as goal

pub returns-in_err-sheet-clause-fault : goal.returns-in_err-sheet-clause-fault
returns-in_err-sheet-clause-fault g c =
    let p = err_from_is_err_and c.from_residual.result c.from_residual.ensures.1 in
    rw (p.1, p.2) (fault-whole c.args.options.now c.args.bytes.now c.least_time-least.result c.least_time-least.ensures _ c.in_err-sheet.ensures.fault)

pub returns-in_err-sheet-clause-objects : goal.returns-in_err-sheet-clause-objects
returns-in_err-sheet-clause-objects g c =
    rows-objects c.args.options.now (first_time (oracle_said c.args.bytes.now)) 0 (kept_in (oracle_told c.args.options.now c.args.bytes.now))

pub returns-in_err-check_losses-clause-objects : goal.returns-in_err-check_losses-clause-objects
returns-in_err-check_losses-clause-objects g c =
    rows-objects c.args.options.now (first_time (oracle_said c.args.bytes.now)) 0 (kept_in (oracle_told c.args.options.now c.args.bytes.now))

pub returns-in_err-check_losses-clause-fault : goal.returns-in_err-check_losses-clause-fault
returns-in_err-check_losses-clause-fault g c =
    let p = err_from_is_err_and c.from_residual-in_err-check_losses.result c.from_residual-in_err-check_losses.ensures.1 in
    let o = c.args.options.now in
    let k = sheet-whole o.edges o c.args.bytes.now c.least_time-least.result c.in_ok-sheet.sheet c.least_time-least.ensures c.in_ok-sheet.ensures.sheet in
    let counts : c.counts_of.result ≡ row_counts (oracle_told o c.args.bytes.now) = c.counts_of.ensures ∙ sheet-counts k in
    rw (p.1, p.2) (λ other. rows-lost o (oracle_told o c.args.bytes.now) _ (subst (λ (n : Counts). IsErrorOfLosses o n c.in_err-check_losses.field-0.0) counts c.in_err-check_losses.ensures.too_few))

pub returns-clause-clamped : goal.returns-clause-clamped
returns-clause-clamped g c =
    let o = c.args.options.now in
    let k = sheet-whole o.edges o c.args.bytes.now c.least_time-least.result c.in_ok-sheet.sheet c.least_time-least.ensures c.in_ok-sheet.ensures.sheet in
    MatchResult-weaker c.finish.result c.finish.ensures.clamped (λ i w. w ∙ k.clamped) (λ e p. p)

pub returns-clause-objects : goal.returns-clause-objects
returns-clause-objects g c =
    rows-objects c.args.options.now (first_time (oracle_said c.args.bytes.now)) 0 (kept_in (oracle_told c.args.options.now c.args.bytes.now))

pub returns-clause-trace : goal.returns-clause-trace
returns-clause-trace g c =
    let o = c.args.options.now in
    let k = sheet-whole o.edges o c.args.bytes.now c.least_time-least.result c.in_ok-sheet.sheet c.least_time-least.ensures c.in_ok-sheet.ensures.sheet in
    MatchResult-weaker c.finish.result c.finish.ensures.trace
    (λ i w. sheet-trace o c.args.bytes.now i.text.items c.in_ok-sheet.sheet o.some_edges o.few_edges k w) (λ e p. p)

pub returns-clause-header : goal.returns-clause-header
returns-clause-header g c =
    let o = c.args.options.now in
    let k = sheet-whole o.edges o c.args.bytes.now c.least_time-least.result c.in_ok-sheet.sheet c.least_time-least.ensures c.in_ok-sheet.ensures.sheet in
    MatchResult-weaker c.finish.result c.finish.ensures.header
    (λ i w. subst (λ (rs : List Row). BeginsWithHeader (has_purge (spread_if o rs)) i.text.items) k.rows w) (λ e p. p)

pub returns-clause-kept : goal.returns-clause-kept
returns-clause-kept g c =
    let o = c.args.options.now in
    let k = sheet-whole o.edges o c.args.bytes.now c.least_time-least.result c.in_ok-sheet.sheet c.least_time-least.ensures c.in_ok-sheet.ensures.sheet in
    MatchResult-weaker c.finish.result c.finish.ensures.kept (λ i w. w ∙ k.count) (λ e p. p)

pub returns-clause-left_out : goal.returns-clause-left_out
returns-clause-left_out g c =
    let o = c.args.options.now in
    let k = sheet-whole o.edges o c.args.bytes.now c.least_time-least.result c.in_ok-sheet.sheet c.least_time-least.ensures c.in_ok-sheet.ensures.sheet in
    MatchResult-weaker c.finish.result c.finish.ensures.left_out (λ i w. w ∙ k.left_out) (λ e p. p)

pub returns-clause-strict : goal.returns-clause-strict
returns-clause-strict g c =
    let o = c.args.options.now in
    let k = sheet-whole o.edges o c.args.bytes.now c.least_time-least.result c.in_ok-sheet.sheet c.least_time-least.ensures c.in_ok-sheet.ensures.sheet in
    MatchResult-weaker c.finish.result c.finish.ensures.kept (λ i w. k.strict) (λ e p. p)

pub finish-requires : goal.finish-requires
finish-requires g c = sheet-times c.in_ok-sheet.ensures.sheet

pub returns-in_err-sheet-clause-spread : goal.returns-in_err-sheet-clause-spread
returns-in_err-sheet-clause-spread g c asked = spread-asked c.args.options.now (oracle_rows_unspread c.args.options.now c.args.bytes.now) c.args.options.now.some_ticks asked

pub returns-in_err-sheet-clause-whole : goal.returns-in_err-sheet-clause-whole
returns-in_err-sheet-clause-whole g c = oracle-whole c.args.options.now c.args.bytes.now

pub returns-in_err-check_losses-clause-spread : goal.returns-in_err-check_losses-clause-spread
returns-in_err-check_losses-clause-spread g c asked = spread-asked c.args.options.now (oracle_rows_unspread c.args.options.now c.args.bytes.now) c.args.options.now.some_ticks asked

pub returns-in_err-check_losses-clause-whole : goal.returns-in_err-check_losses-clause-whole
returns-in_err-check_losses-clause-whole g c = oracle-whole c.args.options.now c.args.bytes.now

pub returns-clause-spread : goal.returns-clause-spread
returns-clause-spread g c asked = spread-asked c.args.options.now (oracle_rows_unspread c.args.options.now c.args.bytes.now) c.args.options.now.some_ticks asked

pub returns-clause-whole : goal.returns-clause-whole
returns-clause-whole g c = oracle-whole c.args.options.now c.args.bytes.now
