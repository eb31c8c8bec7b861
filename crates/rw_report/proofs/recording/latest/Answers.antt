use Rattle.std.proofs.Common.{sym}
use Rattle.rw_report.proofs.Recorded.{last_some}
use Rattle.rw_report.proofs.recording.latest.Goals as goal

pub returns-in-Some : goal.returns-in-Some
returns-in-Some c = sym (last_some c.args.time c.args.rows.now c.in-Some.row.now (sym c.in-Some.ensures.value))
