use Rattle.std.proofs.Common.{List, Option, subst}
use Rattle.std.specs.Prelude.{IfSome}
use Rattle.std.proofs.lemmas.Result.{err_from_is_err_and}
use Rattle.rw_trace.specs.Words.{Fields}
use Rattle.rw_import.specs.CsvStream.{IsColumnsFault}
use Rattle.rw_import.proofs.Columns.{fault-of-bytes}
use Rattle.rw_import.proofs.csv_stream.open_log.Goals as goal

pub returns-in_err-places-clause-fault : goal.returns-in_err-places-clause-fault
returns-in_err-places-clause-fault g c =
    let l = c.args.layout.now in
    let e = c.in_err-places.field-0.0 in
    let p = err_from_is_err_and c.from_residual.result c.from_residual.ensures.1 in
    rw (p.1, p.2) (λ of_log. fault-of-bytes l (g.R.Read.remaining c.args.bytes) e
    (subst (λ (ahead : Option (List Fields)). IfSome ahead (λ records. IsColumnsFault l records e)) c.open-reader.ensures.all (c.in_err-places.ensures.fault of_log)))
