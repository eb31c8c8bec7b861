-- A world that is left off: what stays while all that is processed is undone.
-- Only contracts of private functions cite this.
use Rattle.std.specs.Prelude.{◌≡◌, List, [], ◌++◌, length, slice_get, Some}
use Rattle.rw_vt.specs.Words.{Process}
use Rattle.rw_vt.specs.declared.event.Event.{Event}
use Rattle.rw_lp.specs.HeldMessages.{held_messages}
use Rattle.rw_lp.specs.Calls.{LogicalProcess}
use Rattle.rw_lp.specs.Process.{ProcessState}
use Rattle.rw_world.specs.declared.parts.Parts.{Parts}
use Rattle.rw_world.specs.Calls.{world_of}

-- the parts are of one run, have collected up to one time, and have as many processes
pub record AreOfOneRun {M S B U : Type 0} (x z : Parts M S B U) : Type 0 where
  pub model : z.model ≡ x.model
  pub starts : z.starts.value.items ≡ x.starts.value.items
  pub initial : z.initial.value.items ≡ x.initial.value.items
  pub collected : z.collected ≡ x.collected
  pub count : length z.processes.items ≡ length x.processes.items

-- nothing is processed at process p that is not committed
abbrev pub HasNothingProcessed : {M S B U : Type 0} → Process → Parts M S B U → Type 0
HasNothingProcessed {M} {S} {B} p z =
    (u : ProcessState S B) → slice_get (world_of z).processes p ≡ Some u → u.processed ≡ []

-- where nothing is processed at another process than p, nothing is afterwards
abbrev pub KeepsOthersUndone : {M S B U : Type 0} → Process → Parts M S B U → Parts M S B U → Type 0
KeepsOthersUndone p x z =
    (q : Process) → (q ≡ p → ⊥) → HasNothingProcessed q x → HasNothingProcessed q z

-- what a process owes, and what is held there: not to be executed
abbrev pub owed_at : {M S B : Type 0} → LogicalProcess M S B → List (Event B)
owed_at l = l.process.debts ++ held_messages l.process.held
