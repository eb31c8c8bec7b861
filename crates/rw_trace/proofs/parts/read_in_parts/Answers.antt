use Rattle.std.proofs.Common.{◌++◌, subst, sym}
use Rattle.std.proofs.lemmas.Result.{err_from_is_err_and}
use Rattle.rw_trace.specs.Laws.{IsTrace}
use Rattle.rw_trace.specs.Limits.{most_rows}
use Rattle.rw_trace.specs.Unread.{records_of}
use Rattle.rw_trace.proofs.Cut.{in_ranges}
use Rattle.rw_trace.proofs.Laws.{trace-complete}
use Rattle.rw_trace.proofs.parts.read_in_parts.Goals as goal

pub returns-clause-rows : goal.returns-clause-rows
returns-clause-rows g c =
    let parts = c.in-Some-read_both.parts in
    let rows = parts.0.items ++ parts.1.items in
    trace-complete c.args.edges most_rows (records_of c.args.bytes.now) rows
    (subst (λ text. IsTrace c.args.edges most_rows (records_of text) rows) (sym c.in-Some.ensures.parts) c.in-Some-read_both.ensures.law)

pub returns-clause-ranges : goal.returns-clause-ranges
returns-clause-ranges g c =
    let parts = c.in-Some-read_both.parts in
    in_ranges c.args.edges most_rows (records_of (c.in-Some.before.now ++ c.in-Some.behind.now)) (parts.0.items ++ parts.1.items) c.in-Some-read_both.ensures.law

pub returns-in_err-rows-clause-refused : goal.returns-in_err-rows-clause-refused
returns-in_err-rows-clause-refused g c =
    let p = err_from_is_err_and c.from_residual.result c.from_residual.ensures.1 in
    rw (p.1, p.2) c.in_err-rows.ensures.refused
