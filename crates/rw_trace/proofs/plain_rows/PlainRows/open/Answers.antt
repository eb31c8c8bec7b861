use Rattle.std.proofs.Common.{Some}
use Rattle.rw_trace.specs.Lines.{records_at}
use Rattle.rw_trace.proofs.Piecewise.{headed_ahead}
use Rattle.rw_trace.proofs.plain_rows.PlainRows.open.Goals as goal

pub returns-clause-ahead : goal.returns-clause-ahead
returns-clause-ahead c =
    let header = c.in_ok-version.ensures.here in
    headed_ahead c.args.edges c.args.most c.args.bytes.now header.head (Some (records_at c.args.bytes.now c.in_ok-version.at)) c.in_ok-version.version header.parts header.is_header
