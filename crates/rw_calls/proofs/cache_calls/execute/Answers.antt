use Rattle.std.proofs.Common.{rules, ◌≡◌, true, sym, subst}
use Rattle.rw_photo.specs.Cache.{IsWellFormed}
use Rattle.rw_photo.specs.Events.{is_valid}
use Rattle.rw_photo.specs.Laws.{step_keeps}
use Rattle.rw_calls.proofs.cache_calls.execute.Goals as goal

pub returns-clause-well_formed : goal.returns-clause-well_formed
returns-clause-well_formed c =
    let valid : is_valid c.args.photo.now.config c.args.event.now ≡ true = search rules in
    let here : c.args.event.now.to ≡ 0 = search rules in
    subst (IsWellFormed c.args.photo.now.config 0) (sym c.in_ok-undo.ensures.state) (step_keeps c.args.photo.now.config 0 c.args.edge.now c.args.event.now c.requires.well_formed valid here)
