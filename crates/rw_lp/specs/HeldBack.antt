-- How held messages are kept, so that those of one event, or one message, are found without a walk.
use Rattle.std.specs.Prelude.{◌≡◌, ◌≤◌, Bool, true, false, if◌then◌else◌, List, [], ◌∷◌, ◌++◌, length, take, drop, slice_range, All}
use Rattle.std.specs.declared.cmp.Ordering.{Ordering}
use Rattle.rw_vt.specs.Words.{Position}
use Rattle.rw_vt.specs.declared.event.Event.{Event}
use Rattle.rw_vt.specs.declared.event.Letter.{Letter}
use Rattle.rw_vt.specs.Letters.{letters_of}
use Rattle.rw_vt.specs.Order.{AtMost, copies}
use Rattle.rw_lp.specs.declared.held.Held.{Held}
use Rattle.rw_lp.specs.HeldMessages.{held_messages, unheld_sends, held_with, held_without}

-- no undone event is less than one that follows
abbrev pub AreFalling : {B : Type 0} → (Event B → Event B → Ordering) → List (Held B) → Type 0
AreFalling cmp [] = Unit {0}
AreFalling cmp (h ∷ hs) = All (λ k. AtMost cmp k.undone h.undone) hs × AreFalling cmp hs

-- the two lists are one bag
abbrev pub AreCounted : {B : Type 0} → (Event B → Event B → Ordering) → List (Event B)
    → List (Event B) → Type 0
AreCounted {B} cmp ms ns = (m : Event B) → copies cmp m ms ≡ copies cmp m ns

-- what is given out where event e is executed with these sends: what is not held, and antis of what is still held with
-- it
abbrev pub letters_given : {B : Type 0} → (Event B → Event B → Ordering) → Event B → List (Event B)
    → List (Held B) → List (Letter B)
letters_given cmp e sends hs =
    letters_of false (unheld_sends cmp sends hs).0
    ++ letters_of true (held_with cmp e (unheld_sends cmp sends hs).1)

-- and what is held after that
abbrev pub held_after : {B : Type 0} → (Event B → Event B → Ordering) → Event B → List (Event B)
    → List (Held B) → List (Held B)
held_after cmp e sends hs = held_without cmp e (unheld_sends cmp sends hs).1

-- where a copy of event e is left, nothing is cancelled; else what is held with it is
abbrev pub antis_unless : {B : Type 0} → Bool → (Event B → Event B → Ordering) → Event B
    → List (Held B) → List (Letter B)
antis_unless is_left cmp e hs = if is_left then [] else letters_of true (held_with cmp e hs)

-- and what is held after that
abbrev pub held_unless : {B : Type 0} → Bool → (Event B → Event B → Ordering) → Event B
    → List (Held B) → List (Held B)
held_unless is_left cmp e hs = if is_left then hs else held_without cmp e hs

-- the pairs of event e stand from one place on and before another one
pub record IsRunOf {B : Type 0} (cmp : Event B → Event B → Ordering) (e : Event B)
    (hs : List (Held B)) (from behind : Position) : Type 0 where
  pub in_order : from ≤ behind
  pub within : behind ≤ length hs
  pub there : held_with cmp e hs ≡ held_messages (slice_range hs from behind)
  pub others : held_without cmp e hs ≡ take from hs ++ drop behind hs
