-- A model with an end time: which events it takes and sends, and what its runs are.
use Rattle.std.specs.Prelude.{◌≡◌, ◌≤◌, ◌↔◌, Bool, List, filter, min, nat_lt}
use Rattle.rw_vt.specs.Words.{Process, Time}
use Rattle.rw_vt.specs.Limits.{end_of_time}
use Rattle.rw_vt.specs.declared.event.Event.{Event}
use Rattle.rw_vt.specs.System.{System, journal_below, IsOutcome, Meets}
use Rattle.rw_vt.specs.Rest.{AreLastStates}
use Rattle.rw_vt.specs.Moments.{AreStatesAt, waiting_at}
use Rattle.rw_models.specs.Committed.{executed_below}

-- of these events those of times before the end, in order
abbrev pub events_before : {B : Type 0} → Time → List (Event B) → List (Event B)
events_before end es = filter (λ e. nat_lt e.time end) es

-- the step, which sends only what is before the end
abbrev pub step_until : {S B : Type 0} → Time → (S → Event B → S × List (Event B))
    → S → Event B → S × List (Event B)
step_until end step s e = ((step s e).0, events_before end (step s e).1)

-- each run of z is the run of y up to the same time, or up to the end where that is earlier: the same events are
-- executed, in the same order, and lead to the same states; what waits then is what waits in y, but for what is not
-- before the end; and a state that passes a test is met on the way only where it is in y
pub record EndsAt {S B : Type 0} (end : Time) (z y : System S B) : Type 0 where
  pub journals : (t : Time) (q : Process) → journal_below z t q ≡ journal_below y (min t end) q
  pub outcome : (t : Time) (journals : List (List (Event B))) (states : List S)
      → IsOutcome z t journals states ↔ IsOutcome y (min t end) journals states
  pub waiting : (t : Time) → t ≤ end → waiting_at z t ≡ events_before end (waiting_at y t)
  pub meets : (t : Time) (test : S → Bool) → Meets z t test → Meets y (min t end) test
  pub executed : (t : Time) → executed_below z t ≡ executed_below y (min t end)
  pub last : end ≤ end_of_time → (states : List S)
      → AreLastStates z states ↔ AreStatesAt y end states
