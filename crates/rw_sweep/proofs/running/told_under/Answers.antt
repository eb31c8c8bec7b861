use Rattle.std.proofs.Common.{◌∙◌}
use Rattle.std.specs.Option.{is_some}
use Rattle.rw_photo.specs.declared.config.Config.{Config}
use Rattle.rw_sweep.specs.OverTime.{header_under, in_format, told_of_choice}
use Rattle.rw_sweep.specs.Table.{conditions}
use Rattle.rw_sweep.proofs.Told.{tells-of-choice, history-of}
use Rattle.rw_sweep.proofs.running.told_under.Goals as goal

pub returns-clause-text : goal.returns-clause-text
returns-clause-text c =
    let config : Config = c.args.point.now.config in
    let marks = c.in-Some.ensures.marks in
    tells-of-choice config c.args.rows.now c.in_ok-moments.ensures.ready c.args.point.now.choice c.args.point.now.ticks_a_second c.args.point.now.place c.args.outlook c.in_ok-moments.moments.items c.in_ok-text.text.items
    (history-of config c.args.rows.now c.in-Some.marks.start c.in-Some.marks.every c.args.outlook c.in_ok-moments.moments.items marks.0 marks.1 c.in_ok-moments.ensures.history)
    (c.in_ok-text.ensures ∙ (λ i. in_format c.args.outlook.format (header_under (is_some c.args.point.now.place) c.args.outlook.every)
    (told_of_choice config c.args.point.now.choice (conditions c.args.point.now.ticks_a_second c.args.outlook.warm_up (c.requires.can_run.facts i)) c.args.point.now.place c.args.outlook.every (c.as_slice.ensures.value i))))
