-- A run that is left off: the states and the events from which the rest of it goes on.
use Rattle.std.specs.Prelude.{◌≡◌, ◌≤◌, true, List, ◌++◌, All}
use Rattle.rw_vt.specs.Words.{Time}
use Rattle.rw_vt.specs.Limits.{end_of_time}
use Rattle.rw_vt.specs.declared.event.Event.{Event}
use Rattle.rw_vt.specs.System.{Rules, System, IsOutcome}

-- these are the states that executing all events in order of time leaves
abbrev pub AreLastStates : {S B : Type 0} → System S B → List S → Type 0
AreLastStates {B = B} y states =
    (journals : List (List (Event B))) × IsOutcome y end_of_time journals states

-- executing all events of z leaves the states that executing all of y leaves
abbrev pub EndsAs : {S B : Type 0} → System S B → System S B → Type 0
EndsAs {S} z y = (last : List S) → AreLastStates z last → AreLastStates y last

-- the event is valid, and not before t
pub record MayCome {S B : Type 0} (y : Rules S B) (t : Time) (e : Event B) : Type 0 where
  pub valid : y.valid e ≡ true
  pub from : t ≤ e.time

-- what is left of a run of y: from these states, with these events, it ends as from its start; and so it does whatever
-- more comes from outside, none of it before t
abbrev pub IsRestOf : {S B : Type 0} → System S B → Time → List S → List (Event B) → Type 0
IsRestOf {B = B} y t states events =
    (more : List (Event B)) → All (MayCome y.rules t) more
    → EndsAs (record y { starts = states; initial = events ++ more })
    (record y { initial = y.initial ++ more })
