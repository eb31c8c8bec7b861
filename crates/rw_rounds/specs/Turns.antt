-- A worker, what it does in one turn, and how it closes.
use Rattle.std.specs.Prelude.{◌≡◌, ℕ, zero, suc, ◌+◌, ◌*◌, ◌/◌, ◌%◌, ◌<◌, ◌≤◌, Bool, true, not, if◌then◌else◌, List, [], ◌∷◌, ◌++◌, length, map, nat_le, ◌==◌, ◌&&◌, slice_get, Some, None}
use Rattle.std.specs.Option.{option_map}
use Rattle.std.specs.declared.cmp.Ordering.{Ordering}
use Rattle.rw_vt.specs.Words.{Count, Position, Process, Time, Worker}
use Rattle.rw_vt.specs.Limits.{end_of_time}
use Rattle.rw_vt.specs.declared.event.Letter.{Letter}
use Rattle.rw_vt.specs.declared.model.Model.{Ghosts}
use Rattle.rw_vt.specs.Order.{event_cmp, Each}
use Rattle.rw_vt.specs.System.{Rules, rules}
use Rattle.rw_lp.specs.Process.{ProcessState}
use Rattle.rw_lp.specs.Calls.{LogicalProcess, least_of_processes}
use Rattle.rw_lp.specs.Sound.{HasCollected}
use Rattle.rw_exchange.specs.Ports.{PortState, SamePort, IsWide, sent_to, received_from}
use Rattle.rw_board.specs.Seats.{SeatState}
use Rattle.rw_pool.specs.Sums.{sum_below}
use Rattle.rw_rounds.specs.declared.plan.Plan.{Plan}
use Rattle.rw_rounds.specs.Bags.{weigh, only, Every}
use Rattle.rw_rounds.specs.Deeds.{Deed, Owned, Goes, IsFair, arrivals, executions, way_of}

-- who the worker is, how it is to work, and the greatest time collected
pub record Role : Type 0 where
  pub number : Worker
  pub plan : Plan
  pub collected : Time

-- What a worker holds: its processes in the order of their numbers, the letters that are still to
-- arrive, those that a ring had no room for, those that failed its test, its port and its seat
pub record WorkerState (M S B : Type 0) : Type 0 where
  pub role : Role
  pub processes : List (LogicalProcess M S B)
  pub inbox : List (Letter B)
  pub kept : List (Letter B)
  pub aside : List (Letter B)
  pub port : PortState (Letter B)
  pub seat : SeatState

-- Process q belongs to worker q mod workers

-- the worker of a letter's process
abbrev pub owner : {B : Type 0} → Role → Letter B → Worker
owner r l = l.event.to % r.plan.workers

abbrev pub is_own : {B : Type 0} → Role → Letter B → Bool
is_own r l = owner r l == r.number

-- the worker's process q, if it has one of that number
abbrev pub process_at : {M S B : Type 0} → Role → List (LogicalProcess M S B) → Owned S B
process_at r xs q =
    if q % r.plan.workers == r.number
    then option_map (λ l. l.process) (slice_get xs (q / r.plan.workers))
    else None

abbrev pub processes_of : {M S B : Type 0} → WorkerState M S B → Owned S B
processes_of w = process_at w.role w.processes

-- the test of a letter that was received: it is valid, to an own process, and not before the
-- greatest time collected
abbrev pub is_accepted : {S B : Type 0} → Rules S B → Role → Letter B → Bool
is_accepted y r l = y.valid l.event && (is_own r l && nat_le r.collected l.event.time)

-- How letters are counted

-- what the letters of all these lists weigh, one list for each worker
abbrev pub weigh_all : {B : Type 0} → Role → (Letter B → ℕ) → (Worker → List (Letter B)) → ℕ
weigh_all r h lists = sum_below r.plan.workers (λ k. weigh h (lists k))

-- weighs the letters to own processes
abbrev pub if_own : {B : Type 0} → Role → (Letter B → ℕ) → Letter B → ℕ
if_own r h = only (is_own r) h

-- weighs the letters to others' processes
abbrev pub if_other : {B : Type 0} → Role → (Letter B → ℕ) → Letter B → ℕ
if_other r h = only (λ l. not (is_own r l)) h

-- weighs the letters that pass the test
abbrev pub if_passes : {S B : Type 0} → Rules S B → Role → (Letter B → ℕ) → Letter B → ℕ
if_passes y r h = only (is_accepted y r) h

-- weighs the letters that fail it
abbrev pub if_fails : {S B : Type 0} → Rules S B → Role → (Letter B → ℕ) → Letter B → ℕ
if_fails y r h = only (λ l. not (is_accepted y r l)) h

-- The conditions of a turn

-- the process runs the model m, has the number that this position of the worker is for, and has
-- collected up to the worker's time
pub record IsInPlace {M S B : Type 0} (order : B → B → Ordering) (m : M) (r : Role)
    (place : Position) (l : LogicalProcess M S B) : Type 0 where
  pub model_is : l.model ≡ m
  pub number : l.number ≡ r.number + place * r.plan.workers
  pub collected : HasCollected (event_cmp order) r.collected l.process

-- the worker can take a turn with the model m: its processes are those of its number, each in its
-- place; letters that are to arrive are fair and to them; those that it keeps are to others; and
-- the port is its own
pub record IsFit {M S B U : Type 0} (model : Ghosts M S B U) (order : B → B → Ordering)
    (m : M) (w : WorkerState M S B) : Type 0 where
  pub number : w.role.number < w.role.plan.workers
  pub window : w.role.plan.window ≤ end_of_time
  pub in_place : (place : Position) (l : LogicalProcess M S B)
      → slice_get w.processes place ≡ Some l → IsInPlace order m w.role place l
  pub complete : (q : Process) → q < model.process_count m
      → q % w.role.plan.workers ≡ w.role.number
      → q / w.role.plan.workers < length w.processes
  pub inbox_fair : Every (IsFair (rules model order m) w.role.collected) w.inbox
  pub inbox_own : Every (λ l. is_own w.role l ≡ true) w.inbox
  pub kept : Every (λ l. owner w.role l ≡ w.role.number → ⊥) w.kept
  pub port : w.port.worker ≡ w.role.number
  pub wide : IsWide w.role.plan.workers w.port

-- A turn

-- a worker that was a is b after a turn with n executions
pub record TookTurn {M S B : Type 0} (y : Rules S B) (a b : WorkerState M S B) (n : Count)
    : Type 0 where
  pub role : b.role ≡ a.role
  pub same_port : SamePort a.port b.port
  pub same_board : b.seat.board ≡ a.seat.board
  -- what its processes did and gave out, what was sent to and received from each worker, and
  -- which times were noted
  pub deeds : List (Deed B)
  pub given : List (Letter B)
  pub sent : Worker → List (Letter B)
  pub received : Worker → List (Letter B)
  pub noted : List Time
  pub goes : Goes y a.role.collected (way_of a.role.plan.lazy) deeds
      (processes_of a) (processes_of b) given
  pub emptied : b.inbox ≡ []
  pub sent_more : (k : Worker) → sent_to b.port k ≡ sent_to a.port k ++ sent k
  pub received_more : (k : Worker)
      → received_from b.port k ≡ received_from a.port k ++ received k
  pub noted_more : b.seat.noted ≡ a.seat.noted ++ noted
  -- each once: those of the inbox, those received that pass the test, and those given out to its
  -- own processes
  pub arrived : (h : Letter B → ℕ)
      → weigh h (arrivals deeds)
      ≡ weigh h a.inbox + weigh_all a.role (if_passes y a.role h) received
      + weigh (if_own a.role h) given
  -- a received letter is set aside exactly where it fails the test
  pub set_aside : (h : Letter B → ℕ)
      → weigh h b.aside ≡ weigh h a.aside + weigh_all a.role (if_fails y a.role h) received
  -- what was kept and what was given out to others was sent, or is kept
  pub passed_on : (h : Letter B → ℕ)
      → weigh h a.kept + weigh (if_other a.role h) given
      ≡ weigh_all a.role h sent + weigh h b.kept
  pub on_its_ring : (k : Worker) → Every (λ l. owner a.role l ≡ k) (sent k)
  -- a time is noted for each letter sent
  pub notes : (h : ℕ → ℕ) → weigh h noted ≡ weigh_all a.role (λ l. h l.event.time) sent
  pub executed : executions deeds ≡ n
  pub within : n ≤ a.role.plan.batch
  -- where it did not use up its batch, all that is pending is held back by the last reading and
  -- the window
  pub held_back : n < a.role.plan.batch
      → (q : Process) (x : ProcessState S B) → processes_of b q ≡ Some x
      → Each y.order (λ e. b.seat.read + a.role.plan.window ≤ e.time) x.pending

-- a worker that was a is b after so many turns, one after another
abbrev pub TookTurns : {M S B : Type 0} → Rules S B → Count
    → WorkerState M S B → WorkerState M S B → Type 0
TookTurns y zero a b = b ≡ a
TookTurns {M} {S} {B} y (suc turns) a b = (c : WorkerState M S B) × (n : Count)
    × TookTurn y a c n × TookTurns y turns c b

-- The closing

-- the times that a worker notes after its last turn: the least of all that is pending, owed or held
-- at its processes, and that of each letter that it keeps
abbrev pub closing_times : {M S B : Type 0} → WorkerState M S B → List Time
closing_times a =
    least_of_processes end_of_time (map (λ l. l.process) a.processes)
    ∷ map (λ l. l.event.time) a.kept

-- after its last turn a worker notes just these
abbrev pub Closes : {M S B : Type 0} → WorkerState M S B → WorkerState M S B → Type 0
Closes a b = b ≡ record a { seat = record a.seat { noted = a.seat.noted ++ closing_times a } }
