use Rattle.std.proofs.Common.{◌≤◌, ap, sym, subst, ◌∙◌}
use Rattle.std.specs.Prelude.{MatchResult}
use Rattle.std.specs.Option.{is_some}
use Rattle.rw_trace.specs.Limits.{latest_time}
use Rattle.rw_sweep.specs.OverTime.{header_under, in_format, told_of_choice}
use Rattle.rw_sweep.specs.Table.{conditions}
use Rattle.rw_sweep.specs.Working.{IsTextUnder}
use Rattle.rw_sweep.proofs.Finishing.{finished}
use Rattle.rw_sweep.proofs.ongoing.finish.Goals as goal

pub finish-requires : goal.finish-requires
finish-requires c = subst (λ s. MatchResult s (λ r. r.run.time ≤ latest_time) (λ e. ⊥)) c.in-Ok.is c.requires.may_finish

pub returns-clause-told : goal.returns-clause-told
returns-clause-told c =
    let p = c.args.run.point in
    λ rows known going.
    subst (λ o. IsTextUnder o rows p c.in_ok-text.text.items) (sym c.requires.to_tell.outlook)
    (finished c.args.outlook rows p c.args.facts c.args.run.recording c.in-Ok.recording c.in_ok-moments.moments.items c.in_ok-text.text.items known c.in-Ok.is going (c.in_ok-moments.ensures.history rows)
    (c.in_ok-text.ensures ∙ ap (λ ms. in_format c.args.outlook.format (header_under (is_some p.place) c.args.outlook.every) (told_of_choice p.config p.choice (conditions p.ticks_a_second c.args.outlook.warm_up c.args.facts) p.place c.args.outlook.every ms)) c.as_slice.ensures.value))
