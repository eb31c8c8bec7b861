-- What a run may stop for.
use Rattle.std.proofs.Common.{◌≡◌, Bool, List, Ok, Err, Result, IfErr, IsPermutation, refl, sym, subst}
use Rattle.std.specs.Result.{IsErrAnd}
use Rattle.std.specs.declared.cmp.Ordering.{Ordering}
use Rattle.rw_vt.specs.Limits.{end_of_time}
use Rattle.rw_vt.specs.declared.event.Event.{Event}
use Rattle.rw_vt.specs.declared.model.Model.{Ghosts}
use Rattle.rw_vt.specs.declared.refusal.Refusal.{Refusal}
use Rattle.rw_vt.specs.declared.refusal.Refusal.TheVariants as refusal
use Rattle.rw_vt.specs.System.{Meets, System, rules, system}
use Rattle.rw_vt.proofs.Laws.{Laws, rules_lawful}
use Rattle.rw_serial.proofs.Permuted.{same_meets}
use Rattle.rw_world.specs.declared.step.Step.{Step}
use Rattle.rw_world.specs.Calls.{MeetsAt, Simulation, system_of}
use Rattle.rw_world.specs.WorldState.{opening_world}
use Rattle.rw_models.specs.Recorded.{KeepsRecords}
use Rattle.rw_models.specs.declared.recorded.Record.{Record}
use Rattle.rw_rounds.specs.declared.plan.Plan.{Plan}
use Rattle.rw_rounds.specs.Stops.{stop_of}
use Rattle.rw_rounds.specs.declared.stop.Stop.{Stop}
use Rattle.rw_rounds.specs.declared.stop.Stop.TheVariants as stop
use Rattle.rw_engine.specs.Alone.{MayStopAlone}
use Rattle.rw_engine.specs.Runs.{IsByBadPlan, MayStopBySteps, MayStopFor, MayStopInOrder}
use Rattle.rw_engine.specs.Segments.{MayStopInRounds}
use Rattle.rw_engine.specs.declared.how.How.{How}
use Rattle.rw_engine.specs.declared.how.How.TheVariants.{InOrder, InRounds}

-- what holds of each stop that may have been handed on
pub if_handed_on : {T : Type 0} (r : Result T Stop) (P Q : Stop → Type 0) → ((s : Stop) → P s → Q s) → IsErrAnd r P → IfErr r Q
if_handed_on (Ok t) P Q f is = tt
if_handed_on (Err s) P Q f is = f s is

module _ {S B : Type 0} (y : System S B) (test : S → Bool) where
  -- one worker stops for what rounds may stop for
  pub alone_in_rounds : {T : Type 0} (plan : Plan) (r : Result T Stop) → IfErr r (MayStopAlone plan) → (r ≡ Err stop.Exhausted → Meets y end_of_time test)
      → IfErr r (MayStopInRounds y test plan)
  alone_in_rounds plan (Ok t) may met = tt
  alone_in_rounds plan (Err stop.Memory) may met = tt
  alone_in_rounds plan (Err stop.Exhausted) may met = (may, λ one. met refl)
  alone_in_rounds plan (Err stop.RoundsUsed) may met = absurd may
  alone_in_rounds plan (Err stop.BadPlan) may met = may
  alone_in_rounds plan (Err stop.NoThread) may met = absurd may

  -- a refusal is a stop of a run in order
  pub refused_in_order : (r : Refusal) (s : Stop) → s ≡ stop_of r → (r ≡ refusal.Exhausted → Meets y end_of_time test) → MayStopInOrder y test s
  refused_in_order refusal.Memory s is met = subst (MayStopInOrder y test) (sym is) tt
  refused_in_order refusal.Exhausted s is met = subst (MayStopInOrder y test) (sym is) (met refl)

  -- and of a run by steps
  pub refused_by_steps : (steps : List Step) (r : Refusal) (s : Stop) → s ≡ stop_of r → (r ≡ refusal.Exhausted → MeetsAt y (opening_world y) test steps) → MayStopBySteps y test steps s
  refused_by_steps steps refusal.Memory s is met = subst (MayStopBySteps y test steps) (sym is) tt
  refused_by_steps steps refusal.Exhausted s is met = subst (MayStopBySteps y test steps) (sym is) (met refl)

  -- want of memory may come anywhere
  pub memory_stops : (how : How) → MayStopFor y test how stop.Memory
  memory_stops InOrder = tt
  memory_stops (InRounds plan) = tt

  -- and a bad plan is refused
  pub bad_plan_stops : (how : How) → IsByBadPlan how → MayStopFor y test how stop.BadPlan
  bad_plan_stops InOrder bad = absurd bad
  bad_plan_stops (InRounds plan) bad = bad

-- a run with records stops for what the run without them may stop for
module _ {S B : Type 0} {z : System (Record S B) B} {y : System S B} (keeps : KeepsRecords z y) (test : S → Bool) where
  unrecorded_in_rounds : (plan : Plan) (s : Stop) → MayStopInRounds z (λ r. test r.state) plan s → MayStopInRounds y test plan s
  unrecorded_in_rounds plan stop.Memory may = tt
  unrecorded_in_rounds plan stop.Exhausted may = (may.0, λ one. keeps.meets end_of_time test (may.1 one))
  unrecorded_in_rounds plan stop.RoundsUsed may = may
  unrecorded_in_rounds plan stop.BadPlan may = may
  unrecorded_in_rounds plan stop.NoThread may = may

  pub unrecorded_stops : (how : How) (s : Stop) → MayStopFor z (λ r. test r.state) how s → MayStopFor y test how s
  unrecorded_stops InOrder stop.Memory may = tt
  unrecorded_stops InOrder stop.Exhausted may = keeps.meets end_of_time test may
  unrecorded_stops InOrder stop.RoundsUsed may = absurd may
  unrecorded_stops InOrder stop.BadPlan may = absurd may
  unrecorded_stops InOrder stop.NoThread may = absurd may
  unrecorded_stops (InRounds plan) s may = unrecorded_in_rounds plan s may

-- a world that has just been opened
pub met_at_opening : {M S B U : Type 0} (model : Ghosts M S B U) (order : B → B → Ordering) {x z : Simulation M S B} (steps : List Step) → x ≡ z → MeetsAt (system_of model order x) x.world (model.is_exhausted x.model) steps → MeetsAt (system_of model order z) z.world (model.is_exhausted z.model) steps
met_at_opening model order steps is met = subst (λ v. MeetsAt (system_of model order v) v.world (model.is_exhausted v.model) steps) is met

-- the initial events may be in any order
module _ {M S B U : Type 0} {model : Ghosts M S B U} {order : B → B → Ordering} (laws : Laws model order) (m : M) (states : List S) {events moved : List (Event B)} (parts : IsPermutation events moved) where
  pub moved_stops : (test : S → Bool) (plan : Plan) (s : Stop) → MayStopInRounds (system model order m states moved) test plan s → MayStopInRounds (system model order m states events) test plan s
  moved_stops test plan stop.Memory may = tt
  moved_stops test plan stop.Exhausted may =
      (may.0, λ one. same_meets (rules model order m) (rules_lawful laws m).exact states events moved parts end_of_time test (may.1 one))
  moved_stops test plan stop.RoundsUsed may = may
  moved_stops test plan stop.BadPlan may = may
  moved_stops test plan stop.NoThread may = may
