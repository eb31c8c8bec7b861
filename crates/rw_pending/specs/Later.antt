-- Events that were sent, until their time comes.
use Rattle.std.specs.Prelude.{◌≡◌, ◌-◌, ◌^◌, ◌<◌, ◌≤◌, ◌++◌, [], ◌∷◌, All, IsPermutation, List, Option, Some, None, if◌then◌else◌, nat_le}
use Rattle.rw_vt.specs.Words.{Time}
use Rattle.rw_vt.specs.declared.event.Event.{Event}

-- no event is earlier, and not all are later; where there is no time, there is no event
abbrev pub IsLeastTime : {B : Type 0} → List (Event B) → Option Time → Type 0
IsLeastTime events None = events ≡ []
IsLeastTime events (Some t) =
    All (λ e. t ≤ e.time) events × (All (λ e. t < e.time) events → ⊥)

-- the time that stands for none: no event is later
abbrev pub never : Time
never = 2 ^ 64 - 1

-- a time, or else another
abbrev pub or_else : Time → Option Time → Time
or_else t None = t
or_else t (Some s) = s

-- this time is the least time of an event, or `never` where there is no event; it is not after `never`
pub record IsLeastOr {B : Type 0} (never : Time) (events : List (Event B)) (t : Time) : Type 0 where
  pub found : Option Time
  pub least : IsLeastTime events found
  pub value : t ≡ or_else never found
  pub within : t ≤ never

-- the earlier of two times, where there are any
abbrev pub earlier_of : Option Time → Option Time → Option Time
earlier_of None t = t
earlier_of (Some s) None = Some s
earlier_of (Some s) (Some t) = Some (if nat_le s t then s else t)

-- no event is earlier than the one in front of it
abbrev pub AreByTime : {B : Type 0} → List (Event B) → Type 0
AreByTime [] = Unit {0}
AreByTime (e ∷ es) = All (λ f. e.time ≤ f.time) es × AreByTime es

-- no event is earlier than the one in front of it, and none is after this time
pub record IsLane {B : Type 0} (events : List (Event B)) (last : Time) : Type 0 where
  pub by_time : AreByTime events
  pub within : All (λ e. e.time ≤ last) events

-- the events of this time have moved behind `taken`, and later ones are left
pub record HasMoved {B : Type 0} (t : Time) (before left taken all : List (Event B)) : Type 0 where
  pub moved : List (Event B)
  pub behind : all ≡ taken ++ moved
  pub parts : IsPermutation before (moved ++ left)
  pub of_time : All (λ e. e.time ≡ t) moved
  pub later : All (λ e. t < e.time) left

-- some events have gone, and the others are left
pub record IsLeft {B : Type 0} (before left : List (Event B)) : Type 0 where
  pub gone : List (Event B)
  pub parts : IsPermutation before (gone ++ left)
