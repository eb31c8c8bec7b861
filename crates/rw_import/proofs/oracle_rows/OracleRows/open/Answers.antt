-- Through the buffer, nothing is read yet.
use Rattle.rw_import.proofs.OracleOrder.{all-ahead, given-same}
use Rattle.rw_import.proofs.OracleWritten.{buffered-known}
use Rattle.rw_import.proofs.oracle_rows.OracleRows.open.Goals as goal

pub returns-in_default-clause-same : goal.returns-in_default-clause-same
returns-in_default-clause-same g c = given-same c.args.streaming.now

pub returns-clause-same : goal.returns-clause-same
returns-clause-same g c = given-same c.args.streaming.now

pub returns-clause-ahead : goal.returns-clause-ahead
returns-clause-ahead g c =
    let rem = g.R.Read.remaining in
    let made = c.in-Ok.ensures in
    all-ahead c.args.streaming.now (rem c.args.log) _ (buffered-known rem c.in-Ok.reader c.args.log made.capacity made.empty made.inner)
