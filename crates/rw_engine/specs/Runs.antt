-- What a run of a model comes to, whichever way it is run.
use Rattle.std.specs.Prelude.{◌≡◌, Bool, List}
use Rattle.std.specs.declared.cmp.Ordering.{Ordering}
use Rattle.rw_vt.specs.Limits.{end_of_time}
use Rattle.rw_vt.specs.declared.event.Event.{Event}
use Rattle.rw_vt.specs.declared.model.Model.{Ghosts}
use Rattle.rw_vt.specs.System.{Meets, System, system}
pub use Rattle.rw_vt.specs.Rest.{AreLastStates}
use Rattle.rw_rounds.specs.Plans.{IsInRanges}
use Rattle.rw_rounds.specs.declared.stop.Stop.{Stop}
use Rattle.rw_rounds.specs.declared.stop.Stop.TheVariants as stop
use Rattle.rw_rounds.specs.declared.traffic.Traffic.{Traffic}
use Rattle.rw_lp.specs.declared.answer.Answer.{Answer}
use Rattle.rw_world.specs.declared.step.Step.{Step}
use Rattle.rw_world.specs.WorldState.{opening_world}
use Rattle.rw_world.specs.Steps.{answers, run}
use Rattle.rw_world.specs.Calls.{MeetsAt, Simulation}
use Rattle.rw_world.specs.Sound.{IsInOrder, Sound}
use Rattle.rw_engine.specs.Alone.{IsTrafficOfRun}
use Rattle.rw_engine.specs.Segments.{MayStopInRounds}
use Rattle.rw_engine.specs.declared.how.How.{How}
use Rattle.rw_engine.specs.declared.how.How.TheVariants.{InOrder, InRounds}

-- no round was run
abbrev pub no_traffic : Traffic
no_traffic = record { rounds = 0; executed = 0; undone = 0; ring = 0; kept = 0 }

-- the steps lead from the world in which nothing is done to this one, with these answers; it is sound, and what is
-- committed there is what executing all events in order of time would have done
pub record IsSteppedTo {M S B U : Type 0} (model : Ghosts M S B U) (order : B → B → Ordering)
    (m : M) (starts : List S) (initial : List (Event B)) (steps : List Step)
    (x : Simulation M S B) (answered : List Answer) : Type 0 where
  pub world_is : x ≡ record {
    model = m;
    starts = starts;
    initial = initial;
    world = run (system model order m starts initial)
        (opening_world (system model order m starts initial)) steps;
  }
  pub answers_are : answered ≡ answers (system model order m starts initial)
      (opening_world (system model order m starts initial)) steps
  pub sound : Sound (system model order m starts initial) x.world
  pub in_order : IsInOrder (system model order m starts initial) x.world

-- rounds of one worker tell what they did
abbrev pub CountsAlone : {S B : Type 0} → System S B → How → Traffic → Type 0
CountsAlone y InOrder traffic = Unit {0}
CountsAlone y (InRounds plan) traffic =
    plan.workers ≡ 1 → IsTrafficOfRun plan y traffic

-- the run is in rounds by a plan of which some field is out of its range
abbrev pub IsByBadPlan : How → Type 0
IsByBadPlan (InRounds plan) = IsInRanges plan → ⊥
IsByBadPlan InOrder = ⊥

-- what a run in order of time may stop for, where `test` says of a state that it can take no further event
abbrev pub MayStopInOrder : {S B : Type 0} → System S B → (S → Bool) → Stop → Type 0
MayStopInOrder y test stop.Memory = Unit {0}
MayStopInOrder y test stop.Exhausted = Meets y end_of_time test
MayStopInOrder y test _ = ⊥

-- what a run by these steps may stop for
abbrev pub MayStopBySteps : {S B : Type 0} → System S B → (S → Bool) → List Step → Stop → Type 0
MayStopBySteps y test steps stop.Memory = Unit {0}
MayStopBySteps y test steps stop.Exhausted = MeetsAt y (opening_world y) test steps
MayStopBySteps y test steps _ = ⊥

-- what this way of running may stop for: that rounds are used up, that there is no thread and that the plan is bad come
-- in rounds alone
abbrev pub MayStopFor : {S B : Type 0} → System S B → (S → Bool) → How → Stop → Type 0
MayStopFor y test InOrder reason = MayStopInOrder y test reason
MayStopFor y test (InRounds plan) reason = MayStopInRounds y test plan reason
