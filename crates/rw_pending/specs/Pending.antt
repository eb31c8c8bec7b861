-- The events that are still to be executed.
use Rattle.std.specs.Prelude.{◌≡◌, ◌<◌, ◌≤◌, ◌++◌, [], ◌∷◌, All, IfNone, IfSome, IsPermutation, List, Option, Some, None, option_to_list}
use Rattle.std.specs.declared.cmp.Ordering.{Ordering}
use Rattle.std.specs.declared.cmp.Reverse.{Reverse}
use Rattle.std.specs.BinaryHeap.{IsHeap}
use Rattle.rw_vt.specs.Words.{Time}
use Rattle.rw_vt.specs.declared.event.Event.{Event}
use Rattle.rw_vt.specs.Order.{event_cmp, AtMost}

-- the time that is reached, and the events that are still to be executed
pub record Waiting (B : Type 0) : Type 0 where
  pub time : Time
  pub events : List (Event B)

-- the first event is at most all others; where there is none, there are no others
abbrev pub StandsBefore : {B : Type 0} → (B → B → Ordering) → Option (Event B) → List (Event B)
    → Type 0
StandsBefore order None others = others ≡ []
StandsBefore order (Some first) others = All (AtMost (event_cmp order) first) others

-- the events are a heap with the least on top
abbrev pub IsLeastOnTop : {B : Type 0} → (B → B → Ordering) → List (Reverse (Event B)) → Type 0
IsLeastOnTop order events = IsHeap (λ a b. event_cmp order b.0 a.0) events

-- this time is reached: no initial event is before it, the events at hand are of it, and the others are after it
pub record AreAround {B : Type 0} (t : Time) (initial now later : List (Event B)) : Type 0 where
  pub initial_from : All (λ e. t ≤ e.time) initial
  pub now_at : All (λ e. e.time ≡ t) now
  pub later_past : All (λ e. t < e.time) later

-- the first initial event comes before all these events; where there is none, there are none of these
abbrev pub IsDue : {B : Type 0} → List (Event B) → List (Event B) → Type 0
IsDue [] later = later ≡ []
IsDue (first ∷ initial) later = All (λ e. first.time < e.time) later

-- the time of an event, or else this one
abbrev pub time_or : {B : Type 0} → Option (Event B) → Time → Time
time_or None t = t
time_or (Some e) t = e.time

-- the event is taken from the front of one of two lists
pub record IsTakenFromOne {B : Type 0} (xs ys : List (Event B)) (taken : Option (Event B))
    (us vs : List (Event B)) : Type 0 where
  pub from_first : List (Event B)
  pub from_second : List (Event B)
  pub first : xs ≡ from_first ++ us
  pub second : ys ≡ from_second ++ vs
  pub both : from_first ++ from_second ≡ option_to_list taken

-- the next time is reached: the events that were sent for it are at hand, unless an initial event comes first
pub record IsReached {B : Type 0} (initial now later now' later' : List (Event B)) : Type 0 where
  pub time : Time
  pub around : AreAround time initial now' later'
  pub due : now' ≡ [] → IsDue initial later'
  pub moved : IsPermutation (now ++ later) (now' ++ later')

-- what is given is a least event of those that wait, the initial ones, those at hand and the later ones, of which
-- `initial'`, `now'` and `later'` are left, around its time; where none is given, nothing waits
pub record IsNextEvent {B : Type 0} (order : B → B → Ordering) (t : Time)
    (initial now later : List (Event B)) (next : Option (Event B))
    (initial' now' later' : List (Event B)) : Type 0 where
  pub none : IfNone next (initial ++ (now ++ later) ≡ [])
  pub none_left : IfNone next (initial' ++ (now' ++ later') ≡ [])
  pub least : IfSome next (λ e. All (AtMost (event_cmp order) e) (initial ++ (now ++ later)))
  pub taken : IfSome next (λ e.
      IsPermutation (initial ++ (now ++ later)) (e ∷ (initial' ++ (now' ++ later'))))
  pub around : AreAround (time_or next t) initial' now' later'

-- the first events of a list have moved behind `taken`, and the others are left
pub record HasMovedOn {B : Type 0} (before left taken all : List (Event B)) : Type 0 where
  pub moved : List (Event B)
  pub parts : before ≡ moved ++ left
  pub behind : all ≡ taken ++ moved
