-- What a worker does on the way through a turn: only contracts of private functions cite what
-- stands here.
use Rattle.std.specs.Prelude.{◌≡◌, ℕ, ◌+◌, ◌<◌, ◌≤◌, Bool, true, false, List, [], ◌∷◌, ◌++◌, length, slice_get, Some}
use Rattle.std.specs.declared.cmp.Ordering.{Ordering}
use Rattle.rw_vt.specs.Words.{Count, Position, Process, Time, Worker}
use Rattle.rw_vt.specs.declared.event.Event.{Event}
use Rattle.rw_vt.specs.declared.event.Letter.{Letter}
use Rattle.rw_vt.specs.declared.model.Model.{Ghosts}
use Rattle.rw_vt.specs.Order.{Each, AtMost}
use Rattle.rw_vt.specs.System.{Rules, sends_of, rules}
use Rattle.rw_lp.specs.Process.{ProcessState, done, Turned, Stays, execute_next}
use Rattle.rw_lp.specs.declared.way.Way.{Way}
use Rattle.rw_lp.specs.Arrival.{undo_by}
use Rattle.rw_lp.specs.Calls.{LogicalProcess}
use Rattle.rw_lp.specs.Sound.{SoundAt, StartsWell}
use Rattle.rw_lp.specs.declared.answer.StepFault.TheVariants.{Straggler}
use Rattle.rw_exchange.specs.Ports.{SamePort, sent_to, received_from}
use Rattle.rw_rounds.specs.declared.inner.Context.{Context}
use Rattle.rw_rounds.specs.declared.inner.Inner.{Inner}
use Rattle.rw_rounds.specs.Bags.{weigh, Every}
use Rattle.rw_rounds.specs.Deeds.{Deed, Goes, IsFair, arrivals, executions, way_of}
use Rattle.rw_rounds.specs.Turns.{Role, WorkerState, owner, process_at, weigh_all, if_own, if_other, if_passes, if_fails, IsFit, Closes}

-- who the worker is
abbrev pub role_of : {M S B U : Type 0} → Inner M S B U → Role
role_of d = record { number = d.number; plan = d.plan; collected = d.collected }

-- a worker without the letters that are still to arrive
abbrev pub worker_of : {M S B U : Type 0} → Inner M S B U → WorkerState M S B
worker_of d = record {
  role = role_of d;
  processes = d.processes.items;
  inbox = [];
  kept = d.kept.items;
  aside = d.aside.items;
  port = d.port;
  seat = d.seat;
}

-- a worker with these letters still to arrive
abbrev pub with_inbox : {M S B U : Type 0} → Inner M S B U → List (Letter B) → WorkerState M S B
with_inbox d letters = record (worker_of d) { inbox = letters }

-- the worker is fit for a turn, and each of its processes starts well and is sound, as every
-- process is that has collected so far
pub record IsFitAndSound {M S B U : Type 0} (model : Ghosts M S B U) (order : B → B → Ordering)
    (m : M) (w : WorkerState M S B) : Type 0 where
  pub fit : IsFit model order m w
  pub starts : (place : Position) (l : LogicalProcess M S B)
      → slice_get w.processes place ≡ Some l → StartsWell model l
  pub sound : (place : Position) (l : LogicalProcess M S B)
      → slice_get w.processes place ≡ Some l
      → SoundAt (rules model order m) w.role.collected l.number l.process

-- From a to b the worker r dealt with letters: of those that were at hand and those that were given
-- out or received since, own ones arrived, others were sent or are kept, and the rest is at hand;
-- with n executions
pub record Works {M S B : Type 0} (y : Rules S B) (r : Role) (a b : WorkerState M S B)
    (at_hand rest : List (Letter B)) (n : Count) : Type 0 where
  pub before : a.role ≡ r
  pub after : b.role ≡ r
  pub inbox : b.inbox ≡ a.inbox
  pub as_many : length b.processes ≡ length a.processes
  pub same_port : SamePort a.port b.port
  pub same_board : b.seat.board ≡ a.seat.board
  pub deeds : List (Deed B)
  pub given : List (Letter B)
  pub sent : Worker → List (Letter B)
  pub received : Worker → List (Letter B)
  pub noted : List Time
  pub goes : Goes y r.collected (way_of r.plan.lazy) deeds
      (process_at r a.processes) (process_at r b.processes) given
  pub sent_more : (k : Worker) → sent_to b.port k ≡ sent_to a.port k ++ sent k
  pub received_more : (k : Worker)
      → received_from b.port k ≡ received_from a.port k ++ received k
  pub noted_more : b.seat.noted ≡ a.seat.noted ++ noted
  pub arrived : (h : Letter B → ℕ)
      → weigh h (arrivals deeds) + weigh (if_own r h) rest
      ≡ weigh (if_own r h) at_hand + weigh_all r (if_passes y r h) received
      + weigh (if_own r h) given
  pub set_aside : (h : Letter B → ℕ)
      → weigh h b.aside ≡ weigh h a.aside + weigh_all r (if_fails y r h) received
  pub passed_on : (h : Letter B → ℕ)
      → weigh h a.kept + weigh (if_other r h) at_hand + weigh (if_other r h) given
      ≡ weigh_all r h sent + weigh h b.kept + weigh (if_other r h) rest
  pub on_its_ring : (k : Worker) → Every (λ l. owner r l ≡ k) (sent k)
  pub notes : (h : ℕ → ℕ) → weigh h noted ≡ weigh_all r (λ l. h l.event.time) sent
  pub executed : executions deeds ≡ n
  -- each process stays that of its model and its number
  pub named : (place : Position) (l z : LogicalProcess M S B)
      → slice_get a.processes place ≡ Some l → slice_get b.processes place ≡ Some z
      → (z.model ≡ l.model) × (z.number ≡ l.number)

-- What the clauses of a inner say

-- the worker at this inner is fit, its processes are sound, and its seat is of the board of the round
pub record CanWork {M S B U : Type 0} (model : Ghosts M S B U) (order : B → B → Ordering)
    (context : Context M S B U) (d : Inner M S B U) : Type 0 where
  pub worker : IsFitAndSound model order context.model.now (worker_of d)
  pub board : d.seat.board ≡ context.board.now.board

-- the worker at this inner went from a to b: it dealt with the letters at hand and those that came
-- up since, but for the rest; with n executions
abbrev pub Deals : {M S B U : Type 0} → Ghosts M S B U → (B → B → Ordering) → Context M S B U
    → Inner M S B U → Inner M S B U → List (Letter B) → List (Letter B) → Count → Type 0
Deals model order context a b at_hand rest n =
    Works (rules model order context.model.now) (role_of a) (worker_of a) (worker_of b)
    at_hand rest n

-- the same, where none is left at hand, and the worker can work on
pub record DealsWithAll {M S B U : Type 0} (model : Ghosts M S B U) (order : B → B → Ordering)
    (context : Context M S B U) (a b : Inner M S B U) (at_hand left : List (Letter B)) (n : Count)
    : Type 0 where
  pub works : Deals model order context a b at_hand [] n
  pub can_work : CanWork model order context b
  pub none_left : left ≡ []

-- each of the letters is of a valid event that is not before the greatest time that this inner has
-- collected
abbrev pub AreFair : {M S B U : Type 0} → Ghosts M S B U → (B → B → Ordering) → Context M S B U
    → Inner M S B U → List (Letter B) → Type 0
AreFair model order context d letters =
    Every (IsFair (rules model order context.model.now) d.collected) letters

-- the inner was a and is b after its closing
abbrev pub ClosesInner : {M S B U : Type 0} → Inner M S B U → Inner M S B U → Type 0
ClosesInner a b = Closes (worker_of a) (worker_of b)

-- Which process executes next

-- x executed what was next, or undid its last event, that way, where what is next is a straggler
abbrev pub Moved : {S B : Type 0} → Rules S B → Way → Process → ProcessState S B → ProcessState S B
    → Bool → List (Letter B) → Type 0
Moved y way p x z true given = execute_next y p x ≡ Turned z given
Moved y way p x z false given =
    (undo_by way y p x ≡ Turned z given) × (execute_next y p x ≡ Stays Straggler)

-- x became z by executing what was next, or by undoing its last event, that way, where that is a
-- straggler; what it gave out was appended to the letters
abbrev pub Advances : {M S B U : Type 0} → Ghosts M S B U → (B → B → Ordering) → Way
    → LogicalProcess M S B → LogicalProcess M S B → Bool
    → List (Letter B) → List (Letter B) → Type 0
Advances {M} {S} {B} model order way x z executed before after =
    (given : List (Letter B)) × (after ≡ before ++ given)
    × Moved (rules model order x.model) way x.number x.process z.process executed given

-- of the events that each process has of some kind, none is before the time t
abbrev pub NoneBefore : {M S B : Type 0} → (Event B → Event B → Ordering)
    → (ProcessState S B → List (Event B)) → Time → List (LogicalProcess M S B) → Type 0
NoneBefore {M} {S} {B} cmp events_of t xs = (place : Position) (l : LogicalProcess M S B)
    → slice_get xs place ≡ Some l → Each cmp (λ e. t ≤ e.time) (events_of l.process)

-- no pending event is before the bound
abbrev pub HeldBack : {M S B : Type 0} → Rules S B → Time → List (LogicalProcess M S B) → Type 0
HeldBack y bound xs = NoneBefore y.order (λ x. x.pending) bound xs

-- the inner went from a to b with n executions; if these are fewer than its batch, all that is
-- pending is held back by the last reading and the window
abbrev pub HoldsBackRest : {M S B U : Type 0} → Ghosts M S B U → (B → B → Ordering)
    → Context M S B U → Inner M S B U → Inner M S B U → Count → Type 0
HoldsBackRest model order context a b n = n < a.plan.batch
    → HeldBack (rules model order context.model.now) (b.seat.read + a.plan.window) b.processes.items

-- the process at this place has the least of all pending events, and that is before the bound
pub record IsNext {M S B : Type 0} (y : Rules S B) (bound : Time)
    (xs : List (LogicalProcess M S B)) (place : Position) : Type 0 where
  pub within : place < length xs
  pub process : LogicalProcess M S B
  pub event : Event B
  pub rest : List (Event B)
  pub there : slice_get xs place ≡ Some process
  pub pending : process.process.pending ≡ event ∷ rest
  pub early : event.time < bound
  pub least : (other : Position) (l : LogicalProcess M S B)
      → slice_get xs other ≡ Some l
      → Each y.order (λ f. AtMost y.order event f) l.process.pending

-- How much work may be left

-- the done events of a process, what they sent, and what is held
abbrev pub size : {M S B : Type 0} → Rules S B → LogicalProcess M S B → Count
size y l =
    length (done l.process)
    + length (sends_of (y.step l.number) l.process.start (done l.process))
    + length l.process.held

abbrev pub sizes : {M S B : Type 0} → Rules S B → List (LogicalProcess M S B) → Count
sizes y [] = 0
sizes y (l ∷ ls) = size y l + sizes y ls

-- how many events are done
abbrev pub dones : {M S B : Type 0} → List (LogicalProcess M S B) → Count
dones [] = 0
dones (l ∷ ls) = length (done l.process) + dones ls

-- how many events are done at this inner
abbrev pub done_count : {M S B U : Type 0} → Inner M S B U → Count
done_count d = dones d.processes.items

-- how much work may be left at this inner with these letters at hand
abbrev pub work_left : {M S B U : Type 0} → Ghosts M S B U → (B → B → Ordering) → Context M S B U
    → Inner M S B U → List (Letter B) → Count
work_left model order context d letters =
    sizes (rules model order context.model.now) d.processes.items + length letters
