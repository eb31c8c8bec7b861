-- What contracts see of a logical process, and what a call on it answers against the turn that it is to take.
use Rattle.std.specs.Prelude.{◌≡◌, Bool, true, false, List, [], ◌∷◌, ◌++◌}
use Rattle.std.specs.declared.cmp.Ordering.{Ordering}
use Rattle.rw_vt.specs.Words.{Process, Time}
use Rattle.rw_vt.specs.declared.event.Event.{Event}
use Rattle.rw_vt.specs.declared.event.Letter.{Letter}
use Rattle.rw_vt.specs.declared.model.Model.{Ghosts}
use Rattle.rw_vt.specs.System.{rules}
use Rattle.rw_vt.specs.Order.{in_order}
use Rattle.rw_bag.specs.Bags.{least_time}
use Rattle.rw_lp.specs.declared.held.Held.{Held}
use Rattle.rw_lp.specs.declared.answer.Answer.{Answer}
use Rattle.rw_lp.specs.declared.answer.Answer.TheVariants.{Done, Refused}
use Rattle.rw_lp.specs.Past.{HistoryState}
use Rattle.rw_lp.specs.Process as process
use Rattle.rw_lp.specs.Process.{ProcessState, done, Turn, Turned, Stays, is_less_than_last, split_last, execute_next, undo_one, undo_lazily}
use Rattle.rw_lp.specs.HeldMessages.{held_messages}

-- a process, with the model that it runs and its number there
pub record LogicalProcess (M S B : Type 0) : Type 0 where
  pub model : M
  pub number : Process
  pub process : ProcessState S B

-- what was done, with what is pending, owed and held
abbrev pub process_of : {M S B : Type 0} → HistoryState M S B → List (Event B) → List (Event B)
    → List (Held B) → LogicalProcess M S B
process_of x pending debts held =
    record {
      model = x.model;
      number = x.number;
      process = record {
        start = x.start;
        committed = x.committed;
        processed = x.processed;
        pending = pending;
        debts = debts;
        held = held;
        state = x.state;
      };
    }

-- a process that has done nothing yet, and to which these events are to come
abbrev pub new_process : {S B : Type 0} → (Event B → Event B → Ordering) → S → List (Event B)
    → ProcessState S B
new_process cmp start initial =
    record {
      start = start;
      committed = [];
      processed = [];
      pending = in_order cmp initial;
      debts = [];
      held = [];
      state = start;
    }

-- what process l does where it is to execute its least pending event, to undo its last processed one, or to take a
-- letter up
abbrev pub execution_by : {M S B U : Type 0} → Ghosts M S B U → (B → B → Ordering)
    → LogicalProcess M S B → Turn S B
execution_by model order l = execute_next (rules model order l.model) l.number l.process

abbrev pub undoing_by : {M S B U : Type 0} → Ghosts M S B U → (B → B → Ordering)
    → LogicalProcess M S B → Turn S B
undoing_by model order l = undo_one (rules model order l.model) l.number l.process

-- the same, where what the undone event sent is held
abbrev pub lazy_undoing_by : {M S B U : Type 0} → Ghosts M S B U → (B → B → Ordering)
    → LogicalProcess M S B → Turn S B
lazy_undoing_by model order l = undo_lazily (rules model order l.model) l.number l.process

-- l and k are of one model, and have one number
abbrev pub IsSameProcess : {M S B : Type 0} → LogicalProcess M S B → LogicalProcess M S B → Type 0
IsSameProcess l k = (k.model ≡ l.model) × (k.number ≡ l.number)

-- between these lists some letters were given out, of which P holds
abbrev pub GivesOut : {B : Type 0} → List (Letter B) → List (Letter B) → (List (Letter B) → Type 0)
    → Type 0
GivesOut {B} before after P = (given : List (Letter B)) × (after ≡ before ++ given) × P given

-- from x the call came to z with this answer and gave these letters out, as the turn says
abbrev pub Took : {S B : Type 0} → ProcessState S B → ProcessState S B → Answer → List (Letter B)
    → Turn S B → Type 0
Took x z a given (Turned after out) = (z ≡ after) × (a ≡ Done) × (given ≡ out)
Took x z a given (Stays fault) = (z ≡ x) × (a ≡ Refused fault) × (given ≡ [])

-- letter l came to process x, which answered, became z and gave these letters out
abbrev pub IsDelivered : {M S B : Type 0} → (Event B → Event B → Ordering) → Letter B → Answer
    → LogicalProcess M S B → LogicalProcess M S B → List (Letter B) → Type 0
IsDelivered cmp l answer x z given =
    Took x.process z.process answer given (process.deliver cmp l x.process)

-- next, x would execute its least pending event, which is no straggler, in a state that passes the test
pub record MeetsNext {S B : Type 0} (cmp : Event B → Event B → Ordering) (x : ProcessState S B)
    (test : S → Bool) : Type 0 where
  pub next : Event B
  pub rest : List (Event B)
  pub pending : x.pending ≡ next ∷ rest
  pub in_time : is_less_than_last cmp next (split_last (done x)) ≡ false
  pub passes : test x.state ≡ true

-- what a delivery takes up: the letter, unless it is refused
abbrev pub letters_taken : {B : Type 0} → Answer → Letter B → List (Letter B)
letters_taken Done l = l ∷ []
letters_taken (Refused fault) l = []

-- the turn is taken
abbrev pub IsTaken : {S B : Type 0} → Turn S B → Type 0
IsTaken (Turned after out) = Unit {0}
IsTaken (Stays fault) = ⊥

-- the least of m and the times of all that is outstanding at a process: pending, owed or held
abbrev pub least_outstanding : {S B : Type 0} → Time → ProcessState S B → Time
least_outstanding m x =
    least_time (least_time (least_time m (held_messages x.held)) x.debts) x.pending

-- the least of m and the times of all that is outstanding at these processes
abbrev pub least_of_processes : {S B : Type 0} → Time → List (ProcessState S B) → Time
least_of_processes m [] = m
least_of_processes m (x ∷ xs) = least_outstanding (least_of_processes m xs) x
