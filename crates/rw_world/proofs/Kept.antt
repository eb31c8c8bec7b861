-- After a step the parts are whole again, and after a refused one they make up the same.
use Rattle.std.proofs.Common.{◌≡◌, ap, sym, ◌∙◌, subst}
use Rattle.std.specs.declared.cmp.Ordering.{Ordering}
use Rattle.rw_vt.specs.declared.model.Model.{Ghosts}
use Rattle.rw_vt.specs.System.{IsReady}
use Rattle.rw_vt.proofs.Laws.{Laws}
use Rattle.rw_lp.specs.declared.answer.StepFault.{StepFault}
use Rattle.rw_lp.specs.declared.answer.Answer.{Answer}
use Rattle.rw_lp.specs.declared.answer.Answer.TheVariants.{Refused}
use Rattle.rw_world.specs.declared.parts.Parts.{Parts}
use Rattle.rw_world.specs.declared.step.Step.{Step}
use Rattle.rw_world.specs.Sound.{Sound}
use Rattle.rw_world.specs.Calls.{Simulation, system_of, with_world, world_of, simulation_of, IsWhole, Made}
use Rattle.rw_world.proofs.Wholes.{law_of}
use Rattle.rw_world.proofs.Schedules.{apply_sound}
use Rattle.rw_world.proofs.Refusals.{refused_is_same}

pub whole_after : {M S B U : Type 0} {model : Ghosts M S B U} {order : B → B → Ordering} (laws : Laws model order) (x z : Parts M S B U) → IsWhole model order x → (step : Step) (answer : Answer) → Made model order x z step answer → IsWhole model order z
whole_after {M} {S} {B} {U} {model} {order} laws x z whole step answer made = record {
  ready = subst (λ (v : Simulation M S B). IsReady model v.model v.starts v.initial) (sym made.world) whole.ready;
  numbered = made.numbered;
  sound = subst (λ (v : Simulation M S B). Sound (system_of model order v) v.world) (sym made.world) (apply_sound (system_of model order (simulation_of x)) (law_of laws (simulation_of x) whole.ready) (world_of x) whole.sound step);
}

pub refused_same : {M S B U : Type 0} (model : Ghosts M S B U) (order : B → B → Ordering) (x z : Parts M S B U) (step : Step) (answer : Answer) → Made model order x z step answer → (fault : StepFault) → answer ≡ Refused fault → simulation_of z ≡ simulation_of x
refused_same model order x z step answer made fault refused =
    made.world ∙ ap (with_world (simulation_of x)) (refused_is_same (system_of model order (simulation_of x)) (world_of x) step fault (sym made.answered ∙ refused))
