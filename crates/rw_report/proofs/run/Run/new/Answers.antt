use Rattle.std.proofs.Common.{◌≤◌, ◌++◌, ◌∙◌, [], refl, sym, subst, inl}
use Rattle.std.specs.Prelude.{All}
use Rattle.std.proofs.lemmas.List.Elements.{All-nil}
use Rattle.rw_vt.specs.System.{IsReady}
use Rattle.rw_photo.specs.contracts.photo.PhotoVtModel.TheImpl as model
use Rattle.rw_report.proofs.Runs.{ready, ready-at}
use Rattle.rw_report.proofs.Taking.{begins, both-none}
use Rattle.rw_report.proofs.run.Run.new.Goals as goal

pub invariant_of-result : goal.invariant_of-result
invariant_of-result c =
    let m = c.new-photo.result in
    let starts = c.in_ok-states.states.items in
    let none = both-none (c.new.ensures.events ∙ c.none.ensures) c.new-2.ensures.items in
    let begun = ready-at m.config m starts [] refl (ready m.config starts [] c.in_ok-states.ensures.states c.in_ok-states.ensures.well_formed (All-nil _)) in
    (subst (IsReady model.ghosts m starts) (sym none) begun, subst (All (λ e. 0 ≤ e.time)) (sym none) (All-nil _), inl refl)

pub returns-clause-none : goal.returns-clause-none
returns-clause-none c =
    let m = c.new-photo.result in
    let starts = c.in_ok-states.states.items in
    begins m.config starts (c.new.result.events ++ c.new-2.result.items) c.in_ok-states.ensures.states (both-none (c.new.ensures.events ∙ c.none.ensures) c.new-2.ensures.items)
    (ready m.config starts [] c.in_ok-states.ensures.states c.in_ok-states.ensures.well_formed (All-nil _))
