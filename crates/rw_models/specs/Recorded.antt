-- A model whose processes keep a record of what they execute: its step, and what its runs are.
use Rattle.std.specs.Prelude.{◌≡◌, ◌≤◌, Bool, List, [], ◌∷◌, ◌++◌, map}
use Rattle.std.specs.declared.cmp.Ordering.{Ordering}
use Rattle.rw_vt.specs.Words.{Process, Time}
use Rattle.rw_vt.specs.Limits.{end_of_time}
use Rattle.rw_vt.specs.declared.event.Event.{Event}
use Rattle.rw_vt.specs.declared.model.Model.{Ghosts}
use Rattle.rw_vt.specs.Order.{AtMost, Each, event_cmp}
use Rattle.rw_vt.specs.System.{IsOutcome, IsReady, Meets, Rules, System, journal_below, map_from, system}
use Rattle.rw_vt.specs.Rest.{AreLastStates, EndsAs}
use Rattle.rw_vt.specs.Moments.{HasReached}
use Rattle.rw_models.specs.Committed.{HasCommitted, RunsOnAfter, executed_below}
use Rattle.rw_models.specs.declared.recorded.Record.{Record}

-- the step, which appends the event to the record
abbrev pub step_recorded : {S B : Type 0} → (S → Event B → S × List (Event B))
    → Record S B → Event B → Record S B × List (Event B)
step_recorded step r e =
    (record { state = (step r.state e).0; executed = r.executed ++ e ∷ [] }, (step r.state e).1)

-- the record after is the one before and this event
abbrev pub IsOneMore : {S B : Type 0} → Record S B → Event B → Record S B → Type 0
IsOneMore before e after = after.executed ≡ before.executed ++ e ∷ []

-- the states in these records
abbrev pub states_of : {S B : Type 0} → List (Record S B) → List S
states_of records = map (λ r. r.state) records

-- the executed events in these records, of each process
abbrev pub executed_of : {S B : Type 0} → List (Record S B) → List (List (Event B))
executed_of records = map (λ r. r.executed) records

-- records of processes in these states that hold no event
abbrev pub new_records : {S B : Type 0} → List S → List (Record S B)
new_records states = map (λ s. record { state = s; executed = [] }) states

-- each run of z is the run of y up to the same time, with a record: the same events are executed, in the same order,
-- and lead to the same states; each process has appended the events that it executed to its record, so that records
-- that were new are the journals; the same events wait then; and a state that passes a test is met on the way only
-- where it is in y
pub record KeepsRecords {S B : Type 0} (z : System (Record S B) B) (y : System S B) : Type 0 where
  pub journals : (t : Time) (q : Process) → journal_below z t q ≡ journal_below y t q
  pub outcome : (t : Time) (journals : List (List (Event B))) (records : List (Record S B))
      → IsOutcome z t journals records → IsOutcome y t journals (states_of records)
  pub executed : (t : Time) (journals : List (List (Event B))) (records : List (Record S B))
      → IsOutcome z t journals records
      → executed_of records ≡ map_from 0 (λ q r. r.executed ++ journal_below y t q) z.starts
  pub fresh : (states : List S) → z.starts ≡ new_records states
      → (t : Time) (journals : List (List (Event B))) (records : List (Record S B))
      → IsOutcome z t journals records → executed_of records ≡ journals
  pub reached : (t : Time) (records : List (Record S B)) (waiting : List (Event B))
      → HasReached z t records waiting → HasReached y t (states_of records) waiting
  pub meets : (t : Time) (test : S → Bool) → Meets z t (λ r. test r.state) → Meets y t test

-- What the records of a segment of a run, which began with new records, hold at its end, put in order: they go on with
-- the events that were committed before the segment
pub record CommitsInOrder {M S B U : Type 0} (model : Ghosts M S B U) (order : B → B → Ordering)
    (m : M) (starts : List S) (initial : List (Event B)) (rules : Rules (Record S B) B)
    (records : List (Record S B)) (events : List (Event B)) : Type 0 where
  -- where the segment goes from one time to another, to those between the two
  pub between : (t u : Time) (states : List S) (waiting left committed : List (Event B))
      → t ≤ u
      → HasCommitted (system model order m starts initial) t states waiting committed
      → HasReached (record { rules = rules; starts = new_records states; initial = waiting })
      u records left
      → HasCommitted (system model order m starts initial) u (states_of records) left
      (committed ++ events)
  -- where it has reached a time, to those before what is left
  pub reaching : (u : Time) (states : List S) (waiting left committed : List (Event B))
      → u ≤ end_of_time
      → RunsOnAfter (system model order m starts initial) committed states waiting
      → IsReady model m states waiting
      → HasReached (record { rules = rules; starts = new_records states; initial = waiting })
      u records left
      → RunsOnAfter (system model order m starts initial) (committed ++ events)
      (states_of records) left
  -- where it leaves off anywhere, and none of them is greater than any that is left, to those before what is left
  pub part : (states : List S) (waiting left committed : List (Event B))
      → RunsOnAfter (system model order m starts initial) committed states waiting
      → EndsAs (record { rules = rules; starts = records; initial = left })
      (record { rules = rules; starts = new_records states; initial = waiting })
      → IsReady model m (states_of records) left
      → Each (event_cmp order) (λ e. Each (event_cmp order) (AtMost (event_cmp order) e) left)
      events
      → RunsOnAfter (system model order m starts initial) (committed ++ events)
      (states_of records) left
  -- where it executes all that is left, to all that the run executes
  pub last : (states : List S) (waiting committed : List (Event B))
      → RunsOnAfter (system model order m starts initial) committed states waiting
      → AreLastStates (record { rules = rules; starts = new_records states; initial = waiting })
      records
      → AreLastStates (system model order m starts initial) (states_of records)
      × (committed ++ events ≡ executed_below (system model order m starts initial) end_of_time)
