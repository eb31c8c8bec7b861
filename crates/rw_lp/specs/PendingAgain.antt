-- What becomes of an event that was taken back.
use Rattle.std.specs.Prelude.{◌≡◌, List, [], Option, Some, None}
use Rattle.std.specs.declared.cmp.Ordering.{Ordering}
use Rattle.rw_vt.specs.declared.event.Event.{Event}
use Rattle.rw_vt.specs.Order.{insert_in_order}
use Rattle.rw_lp.specs.declared.held.Held.{Held}
use Rattle.rw_lp.specs.declared.answer.Answer.{Answer}
use Rattle.rw_lp.specs.declared.answer.Answer.TheVariants.{Done, Refused}
use Rattle.rw_lp.specs.declared.answer.StepFault.TheVariants.{NothingToUndo}
use Rattle.rw_lp.specs.declared.undo_record.Undone.{Undone}
use Rattle.rw_lp.specs.HeldMessages.{held_of}

-- the event, if there is one, is pending again, and the answer says whether there was one
abbrev pub IsPendingAgain : {B : Type 0} → (Event B → Event B → Ordering) → Option (Undone B)
    → List (Event B) → Answer → List (Event B) → Type 0
IsPendingAgain cmp None before answer after = (answer ≡ Refused NothingToUndo) × (after ≡ before)
IsPendingAgain cmp (Some u) before answer after =
    (answer ≡ Done) × (after ≡ insert_in_order cmp u.event before)

-- what it had sent
abbrev pub sent_by : {B : Type 0} → Option (Undone B) → List (Event B)
sent_by None = []
sent_by (Some u) = u.sends

-- the same, held with it
abbrev pub held_by : {B : Type 0} → Option (Undone B) → List (Held B)
held_by None = []
held_by (Some u) = held_of u.event u.sends
