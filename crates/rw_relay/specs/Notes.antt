-- A stop that calls its bus: which events may come, what each does, and the laws of that.
use Rattle.std.specs.Prelude.{◌≡◌, ◌<◌, ◌+◌, ◌%◌, ◌^◌, ◌==◌, ℕ, Bool, true, false, List, [], ◌∷◌, nat_lt, nat_le, ◌&&◌, All, refl, if◌then◌else◌, cond}
use Rattle.std.specs.declared.cmp.Ordering.TheVariants.{Equal}
use Rattle.std.specs.Ordering.{nat_cmp}
use Rattle.std.proofs.Common.{arith, ap}
use Rattle.std.proofs.lemmas.Bool.Decides.{nat_tests}
use Rattle.std.proofs.lemmas.List.Elements.{All-cons, All-nil}
use Rattle.rw_vt.specs.Limits.{end_of_time}
use Rattle.rw_vt.specs.Words.{Count, Process}
use Rattle.rw_vt.specs.declared.event.Event.{Event}
use Rattle.rw_vt.specs.Valid.{IsInRange, IsSentBy}
use Rattle.rw_relay.specs.Parcels.{nat_cmp_same}
use Rattle.rw_relay.specs.declared.stop.Stop.{Stop}
use Rattle.rw_relay.specs.declared.stop.Seen.{Seen}
use Rattle.rw_relay.specs.declared.stop.Note.{Note}

-- an event that may be handed to its process
abbrev pub is_sound_note : Event Note → Bool
is_sound_note e =
    nat_lt e.time end_of_time && nat_le e.source 2 && nat_lt e.number (2 ^ 64) && nat_lt e.to 2
    && nat_lt e.body.people (2 ^ 64)

-- what is kept is in the range of its type
pub record IsSeen (s : Seen) : Type 0 where
  pub events : s.events < 2 ^ 64

-- a message of process p to the bus
abbrev pub note_of : Stop → Process → ℕ → Count → Event Note
note_of m p number people =
    record {
      time = m.due;
      source = p + 1;
      number = number;
      to = 1;
      body = record { people = people };
    }

-- whether the event is a passenger who comes to the stop in time
abbrev pub is_in_time : Stop → Process → Event Note → Bool
is_in_time m p e = p == 0 && nat_lt e.time m.due

-- how many have come after one more
abbrev pub count_after : Seen → Count
count_after s = (s.events + 1) % 2 ^ 64

-- a passenger makes the stop call the bus, and tell it how many have come
abbrev pub stop_step : Stop → Process → Seen → Event Note → Seen × List (Event Note)
stop_step m p s e = (
  record { events = count_after s },
  if is_in_time m p e then note_of m p 0 1 ∷ note_of m p 1 (count_after s) ∷ [] else [],
)

pub stop_ranges : (m : Stop) (e : Event Note) → is_sound_note e ≡ true → IsInRange 2 e
stop_ranges m e h =
    record {
      time = grind (arith, nat_tests);
      source = grind (arith, nat_tests);
      number = grind (arith, nat_tests);
      to = grind (arith, nat_tests);
    }

pub stop_keeps : (m : Stop) (p : Process) (s : Seen) (e : Event Note) → IsSeen s
    → is_sound_note e ≡ true → e.to ≡ p → IsSeen (stop_step m p s e).0
stop_keeps m p s e w h t = record { events = omega arith }

-- what is said of a note that a passenger causes
sent_well : (m : Stop) (p : Process) (e : Event Note) (number : ℕ) (people : Count)
    → m.due < end_of_time → number < 2 ^ 64 → people < 2 ^ 64 → is_in_time m p e ≡ true
    → IsSentBy p e (note_of m p number people) × (is_sound_note (note_of m p number people) ≡ true)
sent_well m p e number people due n k g =
    (record { source = refl; later = grind (arith, nat_tests) }, grind (arith, nat_tests))

pub stop_future : (m : Stop) (p : Process) (s : Seen) (e : Event Note) → IsSeen s
    → is_sound_note e ≡ true → e.to ≡ p
    → All (λ f. IsSentBy p e f × (is_sound_note f ≡ true)) (stop_step m p s e).1
stop_future m p s e w h t = by_case (is_in_time m p e) refl
  where
    by_case : (b : Bool) → is_in_time m p e ≡ b
        → All (λ f. IsSentBy p e f × (is_sound_note f ≡ true))
        (cond b (note_of m p 0 1 ∷ note_of m p 1 (count_after s) ∷ []) [])
    by_case true g =
        All-cons (λ f. IsSentBy p e f × (is_sound_note f ≡ true)) (note_of m p 0 1)
        (note_of m p 1 (count_after s) ∷ [])
        (sent_well m p e 0 1 m.before_end (omega arith) (omega arith) g)
        (All-cons (λ f. IsSentBy p e f × (is_sound_note f ≡ true))
        (note_of m p 1 (count_after s)) []
        (sent_well m p e 1 (count_after s) m.before_end (omega arith) (omega arith) g)
        (All-nil (λ f. IsSentBy p e f × (is_sound_note f ≡ true))))
    by_case false g = All-nil (λ f. IsSentBy p e f × (is_sound_note f ≡ true))

pub note_same : (a b : Note) → nat_cmp a.people b.people ≡ Equal → a ≡ b
note_same a b h =
    let same : a.people ≡ b.people = nat_cmp_same a.people b.people h in
    ap (λ n. let r : Note = record { people = n } in r) same
