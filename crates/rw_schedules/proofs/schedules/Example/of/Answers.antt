use Rattle.std.proofs.Common.{◌+◌, ◌^◌, ◌∙◌, ap, length, map}
use Rattle.std.proofs.lemmas.List.FromFn.{length-map-range_with_len}
use Rattle.rw_photo.specs.declared.config.Config.{Config}
use Rattle.rw_photo.specs.Cache.{start}
use Rattle.rw_report.proofs.Runs.{length-states, ready-at}
use Rattle.rw_schedules.proofs.schedules.Example.of.Goals as goal

pub run-requires : goal.run-requires
run-requires c = record { ready = ready-at c.args.config c.new.result c.in_ok-starts.starts.items c.in_ok-starts.initial.items c.new.ensures c.in_ok-starts.ensures.beginning.ready }

pub report-requires : goal.report-requires
report-requires c =
    let config : Config = c.args.config in
    length-states _ (2 ^ 40) (map (λ j. j.items) c.in_ok-outcome.outcome.journals.items) c.in_ok-outcome.outcome.states.items c.in_ok-outcome.ensures.outcome
    ∙ ap length c.in_ok-starts.ensures.beginning.starts_are
    ∙ length-map-range_with_len (start config) 0 (config.edges + config.origins)
