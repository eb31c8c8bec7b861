-- What contracts see of a world, and what its parts must keep.
use Rattle.std.specs.Prelude.{◌≡◌, Bool, List, ◌∷◌, ◌++◌, map, slice_get, Some}
use Rattle.std.specs.declared.cmp.Ordering.{Ordering}
use Rattle.rw_vt.specs.Words.{Process, Time}
use Rattle.rw_vt.specs.declared.event.Event.{Event}
use Rattle.rw_vt.specs.declared.model.Model.{Ghosts}
use Rattle.rw_vt.specs.System.{System, system, IsReady}
use Rattle.rw_lp.specs.Process as process
use Rattle.rw_lp.specs.Process.{ProcessState}
use Rattle.rw_lp.specs.Calls.{LogicalProcess, MeetsNext}
use Rattle.rw_lp.specs.declared.answer.Answer.{Answer}
use Rattle.rw_world.specs.declared.parts.Parts.{Parts}
use Rattle.rw_world.specs.declared.step.Step.{Step}
use Rattle.rw_world.specs.declared.step.Step.TheVariants.{Execute}
use Rattle.rw_world.specs.WorldState.{WorldState}
use Rattle.rw_world.specs.Steps.{apply, run}
use Rattle.rw_world.specs.Sound.{Sound}

-- a world, with the model, the starts and the initial events, which never change
pub record Simulation (M S B : Type 0) : Type 0 where
  pub model : M
  pub starts : List S
  pub initial : List (Event B)
  pub world : WorldState S B

-- the model at work in it
abbrev pub system_of : {M S B U : Type 0} → Ghosts M S B U → (B → B → Ordering) → Simulation M S B
    → System S B
system_of model order x = system model order x.model x.starts x.initial

-- its world is sound
abbrev pub IsSound : {M S B U : Type 0} → Ghosts M S B U → (B → B → Ordering) → Simulation M S B
    → Type 0
IsSound model order x = Sound (system_of model order x) x.world

-- where a step leads from it, and what the step answers
abbrev pub step_from : {M S B U : Type 0} → Ghosts M S B U → (B → B → Ordering) → Simulation M S B
    → Step → WorldState S B × Answer
step_from model order x step = apply (system_of model order x) x.world step

-- the same, in another world
abbrev pub with_world : {M S B : Type 0} → Simulation M S B → WorldState S B → Simulation M S B
with_world x w = record x { world = w }

-- what the parts make up
abbrev pub world_of : {M S B U : Type 0} → Parts M S B U → WorldState S B
world_of x =
    record {
      processes = map (λ l. l.process) x.processes.items;
      letters = x.letters.items;
      collected = x.collected;
    }

abbrev pub simulation_of : {M S B U : Type 0} → Parts M S B U → Simulation M S B
simulation_of x =
    record {
      model = x.model;
      starts = x.starts.value.items;
      initial = x.initial.value.items;
      world = world_of x;
    }

-- a process after it has collected
abbrev pub after_collecting : {M S B : Type 0} → Time → LogicalProcess M S B → LogicalProcess M S B
after_collecting t l = record l { process = process.collect t l.process }

-- the processes run the model m, and are numbered from 0
abbrev pub AreNumbered : {M S B : Type 0} → M → List (LogicalProcess M S B) → Type 0
AreNumbered {M} {S} {B} m xs =
    (p : Process) (x : LogicalProcess M S B) → slice_get xs p ≡ Some x
    → (x.model ≡ m) × (x.number ≡ p)

-- the parts make up a sound world of the model, the starts and the initial events that they name
pub record IsWhole {M S B U : Type 0} (model : Ghosts M S B U) (order : B → B → Ordering)
    (x : Parts M S B U) : Type 0 where
  pub ready : IsReady model x.model x.starts.value.items x.initial.value.items
  pub numbered : AreNumbered x.model x.processes.items
  pub sound : Sound (system_of model order (simulation_of x)) (world_of x)

-- the parts x were led to z by this step, with this answer
pub record Made {M S B U : Type 0} (model : Ghosts M S B U) (order : B → B → Ordering)
    (x z : Parts M S B U) (step : Step) (answer : Answer) : Type 0 where
  pub world : simulation_of z
      ≡ with_world (simulation_of x)
      (apply (system_of model order (simulation_of x)) (world_of x) step).0
  pub answered : answer ≡ (apply (system_of model order (simulation_of x)) (world_of x) step).1
  pub numbered : AreNumbered z.model z.processes.items

-- the step is to execute an event at a process that has one to execute next, in a state that passes the test
pub record ExecutesAt {S B : Type 0} (cmp : Event B → Event B → Ordering) (w : WorldState S B)
    (test : S → Bool) (step : Step) : Type 0 where
  pub number : Process
  pub process : ProcessState S B
  pub executes : step ≡ Execute number
  pub there : slice_get w.processes number ≡ Some process
  pub meets : MeetsNext cmp process test

-- one of the steps is, when its turn comes
pub record MeetsAt {S B : Type 0} (y : System S B) (w : WorldState S B) (test : S → Bool)
    (steps : List Step) : Type 0 where
  pub before : List Step
  pub step : Step
  pub rest : List Step
  pub steps_are : steps ≡ before ++ step ∷ rest
  pub executes : ExecutesAt y.rules.order (run y w before) test step
