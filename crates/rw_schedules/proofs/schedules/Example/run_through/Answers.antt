use Rattle.std.proofs.Common.{◌^◌, ◌∙◌, map}
use Rattle.rw_report.proofs.Runs.{length-states}
use Rattle.rw_schedules.proofs.schedules.Example.run_through.Goals as goal

pub report-requires : goal.report-requires
report-requires g c =
    length-states _ (2 ^ 40) (map (λ j. j.items) c.in-Ok.outcome.journals.items) c.in-Ok.outcome.states.items c.in-Ok.ensures.outcome
    ∙ c.in_ok-world.ensures.starts
