-- What holds of every world, in every setting: the laws of these definitions.
use Rattle.std.specs.Prelude.{◌≤◌, ◌↔◌, List}
use Rattle.std.specs.declared.cmp.Ordering.{Ordering}
use Rattle.rw_vt.specs.Words.{Process, Time}
use Rattle.rw_vt.specs.Limits.{end_of_time}
use Rattle.rw_vt.specs.declared.event.Letter.{Letter}
use Rattle.rw_vt.specs.declared.model.Model.{Ghosts}
use Rattle.rw_vt.specs.System.{Setting, system_in}
use Rattle.rw_world.specs.declared.step.Step.{Step}
use Rattle.rw_world.specs.WorldState.{WorldState, opening_world, floor}
use Rattle.rw_world.specs.Steps.{run}
use Rattle.rw_world.specs.Sound.{Sound, IsInOrder, IsQuiet, StepKept}
use Rattle.rw_world.specs.Rounds.{Exchanged}

-- each step keeps a sound world sound, a refused one leaves it as it was, and no committed event is lost
abbrev pub StepsKeepSound : {M S B U : Type 0} → Ghosts M S B U → (B → B → Ordering) → Type 0
StepsKeepSound {M} {S} {B} model order =
    (k : Setting model) (w : WorldState S B) (step : Step) → Sound (system_in order k) w
    → StepKept (system_in order k) w step

-- a sound world is in order
abbrev pub SoundIsInOrder : {M S B U : Type 0} → Ghosts M S B U → (B → B → Ordering) → Type 0
SoundIsInOrder {M} {S} {B} model order =
    (k : Setting model) (w : WorldState S B) → Sound (system_in order k) w
    → IsInOrder (system_in order k) w

-- in every setting: whatever the steps, refused ones included, the world to which they lead from the one in which
-- nothing is done is in order
abbrev pub SchedulesLeadInOrder : {M S B U : Type 0} → Ghosts M S B U → (B → B → Ordering) → Type 0
SchedulesLeadInOrder model order =
    (k : Setting model) (steps : List Step)
    → IsInOrder (system_in order k)
    (run (system_in order k) (opening_world (system_in order k)) steps)

-- the floor is the greatest time, up to the end, before which nothing is outstanding
abbrev pub FloorIsGreatest : {M S B U : Type 0} → Ghosts M S B U → (B → B → Ordering) → Type 0
FloorIsGreatest {M} {S} {B} model order =
    (k : Setting model) (w : WorldState S B) (t : Time)
    → (t ≤ floor w) ↔ ((t ≤ end_of_time) × IsQuiet (system_in order k) t w)

-- whatever all processes of a sound world do at once, each keeping its balance of letters, the world is sound
-- afterwards
abbrev pub ExchangesKeepSound : {M S B U : Type 0} → Ghosts M S B U → (B → B → Ordering) → Type 0
ExchangesKeepSound {M} {S} {B} model order =
    (k : Setting model) (w v : WorldState S B) (came out : Process → List (Letter B))
    → Sound (system_in order k) w → Exchanged (system_in order k) w v came out
    → Sound (system_in order k) v
