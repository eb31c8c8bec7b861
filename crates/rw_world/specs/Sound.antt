-- What holds of each world that steps lead to.
use Rattle.std.specs.Prelude.{◌≡◌, ◌+◌, ◌<◌, ◌≤◌, true, List, [], ◌∷◌, ◌++◌, map, nat_lt, filter, slice_get, Option, Some, None}
use Rattle.rw_vt.specs.Words.{Process, Time}
use Rattle.rw_vt.specs.Limits.{end_of_time}
use Rattle.rw_vt.specs.declared.event.Event.{Event}
use Rattle.rw_vt.specs.declared.event.Letter.{Letter}
use Rattle.rw_vt.specs.Order.{copies, Each}
use Rattle.rw_vt.specs.Letters.{messages, antis}
use Rattle.rw_vt.specs.System.{System, state_after, all_sent, journal_below, IsOutcome}
use Rattle.rw_lp.specs.HeldMessages.{held_messages}
use Rattle.rw_lp.specs.Process.{ProcessState, done}
use Rattle.rw_lp.specs.Sound.{SoundAt, SoundLetters}
use Rattle.rw_lp.specs.declared.answer.StepFault.{StepFault}
use Rattle.rw_lp.specs.declared.answer.Answer.TheVariants.{Refused}
use Rattle.rw_world.specs.declared.step.Step.{Step}
use Rattle.rw_world.specs.WorldState.{WorldState, floor, is_finished}
use Rattle.rw_world.specs.Steps.{apply}

-- Lists of one process, empty where there is none, or of all

abbrev pub list_at : {S B : Type 0} → (ProcessState S B → List (Event B))
    → Option (ProcessState S B) → List (Event B)
list_at f None = []
list_at f (Some x) = f x

-- what process q has committed, has done, is to execute, and owes
abbrev pub committed_of : {S B : Type 0} → List (ProcessState S B) → Process → List (Event B)
committed_of ps q = list_at (λ x. x.committed) (slice_get ps q)

abbrev pub done_of : {S B : Type 0} → List (ProcessState S B) → Process → List (Event B)
done_of ps q = list_at done (slice_get ps q)

abbrev pub pending_of : {S B : Type 0} → List (ProcessState S B) → Process → List (Event B)
pending_of ps q = list_at (λ x. x.pending) (slice_get ps q)

abbrev pub debts_of : {S B : Type 0} → List (ProcessState S B) → Process → List (Event B)
debts_of ps q = list_at (λ x. x.debts) (slice_get ps q)

-- all that is held anywhere
abbrev pub held_in : {S B : Type 0} → List (ProcessState S B) → List (Event B)
held_in [] = []
held_in (x ∷ ps) = held_messages x.held ++ held_in ps

-- each copy of e that was sent, or is held, is done, pending or on its way
abbrev pub Balanced : {S B : Type 0} → System S B → List (ProcessState S B) → List (Letter B)
    → Event B → Type 0
Balanced y ps ls e =
    copies y.rules.order e (all_sent y (done_of ps)) + copies y.rules.order e (held_in ps)
    + copies y.rules.order e (debts_of ps e.to) + antis y.rules.order e ls
    ≡ copies y.rules.order e (done_of ps e.to) + copies y.rules.order e (pending_of ps e.to)
    + messages y.rules.order e ls

-- each process is sound, so are the letters, and all events are balanced
pub record Sound {S B : Type 0} (y : System S B) (w : WorldState S B) : Type 0 where
  pub starts : map (λ x. x.start) w.processes ≡ y.starts
  pub each : (q : Process) (x : ProcessState S B) → slice_get w.processes q ≡ Some x
      → SoundAt y.rules w.collected q x
  pub letters : SoundLetters y.rules w.collected w.letters
  pub balance : (e : Event B) → Balanced y w.processes w.letters e

-- nothing outstanding has a time below t
pub record IsQuiet {S B : Type 0} (y : System S B) (t : Time) (w : WorldState S B) : Type 0 where
  pub pending : (q : Process) → Each y.rules.order (λ e. t ≤ e.time) (pending_of w.processes q)
  pub debts : (q : Process) → Each y.rules.order (λ e. t ≤ e.time) (debts_of w.processes q)
  pub letters : (e : Event B)
      → 0 < messages y.rules.order e w.letters + antis y.rules.order e w.letters → t ≤ e.time
  pub held : Each y.rules.order (λ e. t ≤ e.time) (held_in w.processes)

-- the committed events, the state of a process that has done nothing beyond them, and all that is done before the
-- floor, are those of executing all events in order of time, and a finished world is the outcome of that
pub record IsInOrder {S B : Type 0} (y : System S B) (w : WorldState S B) : Type 0 where
  pub committed : (q : Process) (x : ProcessState S B) → slice_get w.processes q ≡ Some x
      → x.committed ≡ journal_below y w.collected q
  pub left : (q : Process) (x : ProcessState S B) (s : S) → slice_get w.processes q ≡ Some x
      → slice_get y.starts q ≡ Some s → x.processed ≡ []
      → x.state ≡ state_after (y.rules.step q) s (journal_below y w.collected q)
  pub before_floor : (t : Time) (q : Process) → t ≤ floor w
      → filter (λ e. nat_lt e.time t) (done_of w.processes q) ≡ journal_below y t q
  pub finished : is_finished w ≡ true
      → IsOutcome y end_of_time (map done w.processes) (map (λ x. x.state) w.processes)

-- a step leads to a sound world, a refused one leaves the world as it was, and committed lists only grow
pub record StepKept {S B : Type 0} (y : System S B) (w : WorldState S B)
    (step : Step) : Type 0 where
  pub sound : Sound y (apply y w step).0
  pub refused : (fault : StepFault) → (apply y w step).1 ≡ Refused fault → (apply y w step).0 ≡ w
  pub grows : (q : Process) (x z : ProcessState S B) → slice_get w.processes q ≡ Some x
      → slice_get (apply y w step).0.processes q ≡ Some z
      → (rest : List (Event B)) × (x.committed ++ rest ≡ z.committed)
