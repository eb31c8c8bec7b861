-- The steps of a world, what each answers, and where a whole schedule leads.
use Rattle.std.specs.Prelude.{zero, suc, max, if◌then◌else◌, List, [], ◌∷◌, ◌++◌, map, nat_le, slice_get, slice_set, Option, Some, None}
use Rattle.rw_vt.specs.Words.{Count, Process, Time}
use Rattle.rw_vt.specs.declared.event.Letter.{Letter}
use Rattle.rw_vt.specs.System.{System}
use Rattle.rw_lp.specs.declared.answer.StepFault.{StepFault}
use Rattle.rw_lp.specs.declared.answer.StepFault.TheVariants.{NoSuchProcess, NoSuchLetter, AboveFloor}
use Rattle.rw_lp.specs.declared.answer.Answer.{Answer}
use Rattle.rw_lp.specs.declared.answer.Answer.TheVariants.{Done, Refused}
use Rattle.rw_lp.specs.declared.way.Way.{Way}
use Rattle.rw_lp.specs.declared.way.Way.TheVariants.{Aggressive, Lazy}
use Rattle.rw_lp.specs.Process as process
use Rattle.rw_lp.specs.Process.{ProcessState, Turn, Turned, Stays, execute_next, undo_one, undo_lazily}
use Rattle.rw_world.specs.declared.step.Step.{Step}
use Rattle.rw_world.specs.declared.step.Step.TheVariants.{Execute, Undo, UndoLazily, Deliver, Collect}
use Rattle.rw_world.specs.WorldState.{WorldState, floor}

-- the world as it is, with the fault for which a step does not apply
abbrev pub refusal : {S B : Type 0} → WorldState S B → StepFault → WorldState S B × Answer
refusal w fault = (w, Refused fault)

-- process p took this turn, while these letters were left on their way
abbrev pub world_after : {S B : Type 0} → WorldState S B → Process → List (Letter B) → Turn S B
    → WorldState S B × Answer
world_after w p left (Stays fault) = refusal w fault
world_after w p left (Turned x out) =
    (record w { processes = slice_set w.processes p x; letters = left ++ out }, Done)

-- process p, if there is one, takes a turn
abbrev pub turn_at : {S B : Type 0} → WorldState S B → Process → (ProcessState S B → Turn S B)
    → Option (ProcessState S B) → WorldState S B × Answer
turn_at w p step None = refusal w NoSuchProcess
turn_at w p step (Some x) = world_after w p w.letters (step x)

-- the list without the one at a place
abbrev pub remove_at : {A : Type 0} → List A → Count → List A
remove_at [] i = []
remove_at (x ∷ xs) zero = xs
remove_at (x ∷ xs) (suc i) = x ∷ remove_at xs i

-- letter i comes to this process
abbrev pub deliver_to : {S B : Type 0} → System S B → WorldState S B → Count → Letter B
    → Option (ProcessState S B) → WorldState S B × Answer
deliver_to y w i l None = refusal w NoSuchProcess
deliver_to y w i l (Some x) =
    world_after w l.event.to (remove_at w.letters i) (process.deliver y.rules.order l x)

-- letter i, if there is one, comes to its process
abbrev pub deliver_letter : {S B : Type 0} → System S B → WorldState S B → Count → Option (Letter B)
    → WorldState S B × Answer
deliver_letter y w i None = refusal w NoSuchLetter
deliver_letter y w i (Some l) = deliver_to y w i l (slice_get w.processes l.event.to)

-- all processes collect up to time t, if nothing outstanding is before it
abbrev pub collect_to : {S B : Type 0} → WorldState S B → Time → WorldState S B × Answer
collect_to w t =
    if nat_le t (floor w)
    then (
      record w
          { processes = map (process.collect t) w.processes; collected = max w.collected t },
      Done,
    )
    else refusal w AboveFloor

-- the step in which process p takes an event back, that way
abbrev pub undoing : Way → Process → Step
undoing Aggressive p = Undo p
undoing Lazy p = UndoLazily p

-- one step, and what it answers
abbrev pub apply : {S B : Type 0} → System S B → WorldState S B → Step → WorldState S B × Answer
apply y w (Execute p) = turn_at w p (execute_next y.rules p) (slice_get w.processes p)
apply y w (Undo p) = turn_at w p (undo_one y.rules p) (slice_get w.processes p)
apply y w (UndoLazily p) = turn_at w p (undo_lazily y.rules p) (slice_get w.processes p)
apply y w (Deliver i) = deliver_letter y w i (slice_get w.letters i)
apply y w (Collect t) = collect_to w t

-- a whole schedule: where it leads, and what its steps answer
abbrev pub run : {S B : Type 0} → System S B → WorldState S B → List Step → WorldState S B
run y w [] = w
run y w (s ∷ ss) = run y (apply y w s).0 ss

abbrev pub answers : {S B : Type 0} → System S B → WorldState S B → List Step → List Answer
answers y w [] = []
answers y w (s ∷ ss) = (apply y w s).1 ∷ answers y (apply y w s).0 ss
