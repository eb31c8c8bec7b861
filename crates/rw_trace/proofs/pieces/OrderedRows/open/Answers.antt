use Rattle.std.proofs.lemmas.Result.{err_from_is_err_and}
use Rattle.rw_trace.proofs.Ahead.{opened-ahead, unopened-refusal}
use Rattle.rw_trace.proofs.pieces.OrderedRows.open.Goals as goal

pub returns-in_err-records-clause-refused : goal.returns-in_err-records-clause-refused
returns-in_err-records-clause-refused g c =
    let p = err_from_is_err_and c.from_residual.result c.from_residual.ensures.1 in
    rw (p.1, p.2) (unopened-refusal c.args.edges c.args.most (g.R.Read.remaining c.args.bytes) c.in_err-records.field-0.0 c.in_err-records.ensures.refused)

pub returns-clause-ahead : goal.returns-clause-ahead
returns-clause-ahead g c = opened-ahead c.args.edges c.args.most (g.R.Read.remaining c.args.bytes) c.in_ok-records.version _ c.in_ok-records.ensures.opened
