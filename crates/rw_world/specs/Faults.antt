-- Where each refusal of a step applies.
use Rattle.std.specs.Prelude.{◌≡◌, ◌<◌, ◌≤◌, true, false, List, ◌∷◌, [], length, slice_get, Some, ◌⊎◌}
use Rattle.std.specs.declared.cmp.Ordering.{Ordering}
use Rattle.rw_vt.specs.Words.{Count, Process, Time}
use Rattle.rw_vt.specs.declared.event.Event.{Event}
use Rattle.rw_vt.specs.declared.event.Letter.{Letter}
use Rattle.rw_vt.specs.Order.{has}
use Rattle.rw_lp.specs.Process.{ProcessState, done, is_less_than_last, split_last}
use Rattle.rw_lp.specs.declared.answer.StepFault.{StepFault}
use Rattle.rw_lp.specs.declared.answer.StepFault.TheVariants.{NoSuchProcess, NoSuchLetter, NothingPending, Straggler, NothingToUndo, StillDone, AboveFloor}
use Rattle.rw_world.specs.declared.step.Step.{Step}
use Rattle.rw_world.specs.declared.step.Step.TheVariants.{Execute, Undo, UndoLazily, Deliver, Collect}
use Rattle.rw_world.specs.WorldState.{WorldState, floor}

-- the step takes the last processed event of process p back
abbrev pub IsUndoing : Step → Process → Type 0
IsUndoing step p = (step ≡ Undo p) ⊎ (step ≡ UndoLazily p)

-- the step names a process that is not there
pub record NamesNoProcess {S B : Type 0} (w : WorldState S B) (step : Step) : Type 0 where
  pub number : Process
  pub step_is : (step ≡ Execute number) ⊎ IsUndoing step number
  pub absent : length w.processes ≤ number

-- the step names a letter that is not there
pub record NamesNoLetter {S B : Type 0} (w : WorldState S B) (step : Step) : Type 0 where
  pub number : Count
  pub step_is : step ≡ Deliver number
  pub absent : length w.letters ≤ number

-- a process is to execute, and nothing is pending there
pub record FindsNothing {S B : Type 0} (w : WorldState S B) (step : Step) : Type 0 where
  pub number : Process
  pub process : ProcessState S B
  pub step_is : step ≡ Execute number
  pub there : slice_get w.processes number ≡ Some process
  pub none : process.pending ≡ []

-- a process is to execute, and its least pending event is less than its last done one
pub record FindsStraggler {S B : Type 0} (cmp : Event B → Event B → Ordering) (w : WorldState S B)
    (step : Step) : Type 0 where
  pub number : Process
  pub process : ProcessState S B
  pub least : Event B
  pub rest : List (Event B)
  pub step_is : step ≡ Execute number
  pub there : slice_get w.processes number ≡ Some process
  pub pending : process.pending ≡ least ∷ rest
  pub late : is_less_than_last cmp least (split_last (done process)) ≡ true

-- a process is to undo, and nothing is processed there that is not committed
pub record FindsNothingDone {S B : Type 0} (w : WorldState S B) (step : Step) : Type 0 where
  pub number : Process
  pub process : ProcessState S B
  pub step_is : IsUndoing step number
  pub there : slice_get w.processes number ≡ Some process
  pub none : process.processed ≡ []

-- an anti-message comes whose event is processed and not pending
pub record FindsItDone {S B : Type 0} (cmp : Event B → Event B → Ordering) (w : WorldState S B)
    (step : Step) : Type 0 where
  pub number : Count
  pub letter : Letter B
  pub process : ProcessState S B
  pub step_is : step ≡ Deliver number
  pub letter_there : slice_get w.letters number ≡ Some letter
  pub there : slice_get w.processes letter.event.to ≡ Some process
  pub anti : letter.anti ≡ true
  pub not_pending : has cmp letter.event process.pending ≡ false
  pub processed : has cmp letter.event process.processed ≡ true

-- what is to be collected is not final
pub record IsAboveFloor {S B : Type 0} (w : WorldState S B) (step : Step) : Type 0 where
  pub time : Time
  pub step_is : step ≡ Collect time
  pub above : floor w < time

-- the fault applies: the step cannot be made for this reason
abbrev pub Applies : {S B : Type 0} → (Event B → Event B → Ordering) → WorldState S B → Step
    → StepFault → Type 0
Applies cmp w step NoSuchProcess = NamesNoProcess w step
Applies cmp w step NoSuchLetter = NamesNoLetter w step
Applies cmp w step NothingPending = FindsNothing w step
Applies cmp w step Straggler = FindsStraggler cmp w step
Applies cmp w step NothingToUndo = FindsNothingDone w step
Applies cmp w step StillDone = FindsItDone cmp w step
Applies cmp w step AboveFloor = IsAboveFloor w step
