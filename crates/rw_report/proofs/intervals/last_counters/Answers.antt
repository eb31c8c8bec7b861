use Rattle.std.proofs.Common.{sym, ◌∙◌}
use Rattle.rw_report.proofs.Told.{last-counters}
use Rattle.rw_report.proofs.intervals.last_counters.Goals as goal

pub returns-in-Some : goal.returns-in-Some
returns-in-Some c = c.as_slice.ensures.value ∙ last-counters c.args.moments.now c.in-Some.moment.now (sym c.in-Some.ensures.value)
