-- A timing wheel: events in the slots of their times.
use Rattle.std.specs.Prelude.{◌≡◌, ◌≢◌, ℕ, ◌+◌, ◌/◌, ◌%◌, ◌<◌, ◌≤◌, ◌↔◌, ◌++◌, [], All, IsPermutation, List, suc, zero, get_or, flat_map, if◌then◌else◌, nat_eq}
use Rattle.std.specs.Int.{bit_at}
use Rattle.rw_vt.specs.Limits.{end_of_time}
use Rattle.rw_vt.specs.Words.{Count, Time}
use Rattle.rw_vt.specs.declared.event.Event.{Event}
use Rattle.rw_pending.specs.Later.{IsLeastOr, never}

-- the slots of a level
abbrev pub slots_of_level : Count
slots_of_level = 256

-- the levels of a wheel
abbrev pub levels : Count
levels = 5

-- the slots of a wheel
abbrev pub slots_of_wheel : Count
slots_of_wheel = 1280

-- the slot of a time in a wheel of so many levels, the lowest first, that has come to this base: where both are in
-- one turn of the lowest level, it is there; else it is the slot of their quotients in the levels above
unfoldable pub slot_of : Count → Time → Time → Count
slot_of zero base t = 0
slot_of (suc above) base t =
    if nat_eq (t / slots_of_level) (base / slots_of_level)
    then t % slots_of_level
    else slots_of_level + slot_of above (base / slots_of_level) (t / slots_of_level)

-- a time has its place in this slot
pub record IsInSlot (base : Time) (at : Count) (t : Time) : Type 0 where
  pub from : base ≤ t
  pub within : t < end_of_time
  pub slot : slot_of levels base t ≡ at

-- the events in a slot
abbrev pub slot_at : {B : Type 0} → List (List (Event B)) → Count → List (Event B)
slot_at slots at = get_or slots at []

-- the events in all slots
abbrev pub all_of : {B : Type 0} → List (List (Event B)) → List (Event B)
all_of slots = flat_map (λ slot. slot) slots

-- each event is in the slot of its time
abbrev pub AreInPlace : {B : Type 0} → Time → List (List (Event B)) → Type 0
AreInPlace base slots = (at : Count) → All (λ e. IsInSlot base at e.time) (slot_at slots at)

-- only this slot has changed: what has come to it and what has gone from it has come to all and gone from all
pub record IsChangedAt {B : Type 0} (at : Count)
    (before after : List (List (Event B))) : Type 0 where
  pub others : (k : Count) → k ≢ at → slot_at after k ≡ slot_at before k
  pub all : (came gone : List (Event B))
      → IsPermutation (slot_at before at ++ came) (gone ++ slot_at after at)
      → IsPermutation (all_of before ++ came) (gone ++ all_of after)

-- this is the least time in the first slot that has an event, or `never` where none has
pub record IsLeastOfFirst {B : Type 0} (slots : List (List (Event B))) (t : Time) : Type 0 where
  pub at : Count
  pub before : (k : Count) → k < at → slot_at slots k ≡ []
  pub least : IsLeastOr never (slot_at slots at) t
  pub none : slot_at slots at ≡ [] → all_of slots ≡ []

-- the events of this time have moved from the slots and others behind `taken`; the slots have only later ones
pub record HasMovedFromSlots {B : Type 0} (t : Time) (before : List (Event B))
    (slots : List (List (Event B))) (others taken all : List (Event B)) : Type 0 where
  pub moved : List (Event B)
  pub behind : all ≡ taken ++ moved
  pub parts : IsPermutation before (moved ++ (all_of slots ++ others))
  pub of_time : All (λ e. e.time ≡ t) moved
  pub later : All (λ e. t < e.time) (all_of slots)

-- 1 where a slot is marked, in words of 64 bits
abbrev pub mark_at : List ℕ → Count → ℕ
mark_at words k = bit_at (get_or words (k / 64) 0) (k % 64)

-- a bit of the summary is set where the word is not 0
abbrev pub IsSummary : ℕ → List ℕ → Type 0
IsSummary summary words = (i : Count) → i < 64 → (bit_at summary i ≡ 0) ↔ (get_or words i 0 ≡ 0)

-- the slots that have events are marked
pub record AreMarked {B : Type 0} (marks : List ℕ) (slots : List (List (Event B))) : Type 0 where
  pub marked : (k : Count) → (mark_at marks k ≡ 0) ↔ (slot_at slots k ≡ [])
