-- A round: each worker takes its turns and closes, and then all are joined.
use Rattle.std.specs.Prelude.{◌≡◌, ℕ, zero, suc, ◌+◌, ◌*◌, ◌/◌, ◌%◌, ◌<◌, ◌≤◌, max, List, [], ◌++◌, length, map, filter, slice_get, Some}
use Rattle.std.specs.declared.cmp.Ordering.{Ordering}
use Rattle.rw_vt.specs.Words.{Count, Position, Process, Time, Worker}
use Rattle.rw_vt.specs.declared.event.Letter.{Letter}
use Rattle.rw_vt.specs.declared.model.Model.{Ghosts}
use Rattle.rw_vt.specs.System.{flatten, rules}
use Rattle.rw_lp.specs.Process.{ProcessState}
use Rattle.rw_lp.specs.Calls.{LogicalProcess}
use Rattle.rw_world.specs.declared.parts.Parts.{Parts}
use Rattle.rw_world.specs.Calls.{Simulation, system_of}
use Rattle.rw_world.specs.Sound.{Sound}
use Rattle.rw_world.specs.WorldState.{floor}
use Rattle.rw_board.specs.Least.{least}
use Rattle.rw_board.specs.Seats.{SeatState}
use Rattle.rw_exchange.specs.Ports.{IsNew, IsWide, sent_to, received_from, sent_between, received_between}
use Rattle.rw_pool.specs.Sums.{sum_below}
use Rattle.rw_rounds.specs.declared.plan.Plan.{Plan}
use Rattle.rw_rounds.specs.Bags.{weigh}
use Rattle.rw_rounds.specs.Turns.{Role, WorkerState, is_own, IsFit, TookTurns, Closes}

-- what worker i is, where g is the greatest time collected
abbrev pub role : Plan → Time → Worker → Role
role plan g i = record { number = i; plan = plan; collected = g }

-- of these processes and letters, a worker begins with those that are its own, and has sent and
-- received nothing yet
pub record Begins {M S B : Type 0} (processes : List (LogicalProcess M S B))
    (letters : List (Letter B)) (r : Role) (a : WorkerState M S B) : Type 0 where
  pub role : a.role ≡ r
  pub processes_are : (place : Position)
      → slice_get a.processes place ≡ slice_get processes (r.number + place * r.plan.workers)
  pub inbox : a.inbox ≡ filter (is_own r) letters
  pub none_kept : a.kept ≡ []
  pub none_aside : a.aside ≡ []
  pub its_port : a.port.worker ≡ r.number
  pub wide : IsWide r.plan.workers a.port
  pub new : IsNew a.port
  pub none_noted : a.seat.noted ≡ []

-- so many turns, and the closing, of a worker of the model m
pub record TookRound {M S B U : Type 0} (model : Ghosts M S B U) (order : B → B → Ordering)
    (m : M) (turns : Count) (a b : WorkerState M S B) : Type 0 where
  pub between : WorkerState M S B
  pub turns_are : TookTurns (rules model order m) turns a between
  pub closes : Closes between b
  pub fit : IsFit model order m b

-- what the letters left in the rings between n workers weigh, by sender and receiver
abbrev pub weigh_left : {B : Type 0} → Count → (Letter B → ℕ)
    → (Worker → Worker → List (Letter B)) → ℕ
weigh_left n h left = sum_below n (λ i. sum_below n (λ k. weigh h (left i k)))

-- these letters are on their way once the workers are done: those left in the rings between them,
-- those kept and those set aside
pub record AreOnTheirWay {M S B : Type 0} (ws : List (WorkerState M S B))
    (letters : List (Letter B)) : Type 0 where
  -- what was left in the rings, by sender and receiver
  pub left : Worker → Worker → List (Letter B)
  pub settled : (i k : Worker) → i < length ws → k < length ws
      → received_between (map (λ w. w.port) ws) i k ++ left i k
      ≡ sent_between (map (λ w. w.port) ws) i k
  pub letters_are : (h : Letter B → ℕ)
      → weigh h letters
      ≡ weigh_left (length ws) h left + weigh h (flatten (map (λ w. w.kept) ws))
      + weigh h (flatten (map (λ w. w.aside) ws))

-- all that was noted at the seats of the first n workers
abbrev pub noted_below : Count → (Worker → SeatState) → List Time
noted_below zero seats = []
noted_below (suc n) seats = noted_below n seats ++ (seats n).noted

-- the workers of the plan take the parts x to the parts z, with this time as the floor
pub record Round {M S B U : Type 0} (model : Ghosts M S B U) (order : B → B → Ordering)
    (plan : Plan) (x z : Parts M S B U) (floor : Time) : Type 0 where
  -- by worker: as it began, and as it closed
  pub first : Worker → WorkerState M S B
  pub last : Worker → WorkerState M S B
  -- what was left in the rings, by sender and receiver
  pub left : Worker → Worker → List (Letter B)
  pub begins : (i : Worker) → i < plan.workers
      → Begins x.processes.items x.letters.items (role plan x.collected i) (first i)
  pub works : (i : Worker) → i < plan.workers
      → TookRound model order x.model plan.turns (first i) (last i)
  pub settled : (i k : Worker) → i < plan.workers → k < plan.workers
      → received_from (last k).port i ++ left i k ≡ sent_to (last i).port k
  -- what the board gave: exactly the least of all times noted
  pub floor_is : floor ≡ least (noted_below plan.workers (λ i. (last i).seat))
  -- the parts in which they are joined
  pub model_is : z.model ≡ x.model
  pub starts_are : z.starts ≡ x.starts
  pub initial_are : z.initial ≡ x.initial
  pub collected_is : z.collected ≡ x.collected
  pub processes_are : (q : Process)
      → slice_get z.processes.items q
      ≡ slice_get (last (q % plan.workers)).processes (q / plan.workers)
  pub letters_are : (h : Letter B → ℕ)
      → weigh h z.letters.items
      ≡ weigh_left plan.workers h left
      + sum_below plan.workers (λ i. weigh h (last i).kept + weigh h (last i).aside)

-- What contracts see of a run between two rounds: the world, how it is run, and what the last
-- round gave as its floor
pub record SimState (M S B : Type 0) : Type 0 where
  pub simulation : Simulation M S B
  pub plan : Plan
  pub floor : Time

-- what a round promises of the worlds before and after it
pub record Rounded {M S B U : Type 0} (model : Ghosts M S B U) (order : B → B → Ordering)
    (x z : SimState M S B) : Type 0 where
  pub model_is : z.simulation.model ≡ x.simulation.model
  pub starts_are : z.simulation.starts ≡ x.simulation.starts
  pub initial_are : z.simulation.initial ≡ x.simulation.initial
  pub plan_is : z.plan ≡ x.plan
  pub sound : Sound (system_of model order z.simulation) z.simulation.world
  -- its floor is a lower bound of what is outstanding, and all before it is committed; it is no
  -- earlier than what was outstanding before the round, so it never goes back
  pub below_floor : z.floor ≤ floor z.simulation.world
  pub no_earlier : floor x.simulation.world ≤ z.floor
  pub collected : z.simulation.world.collected ≡ max x.simulation.world.collected z.floor
  -- no committed event is lost
  pub longer : (q : Process) (a b : ProcessState S B)
      → slice_get x.simulation.world.processes q ≡ Some a
      → slice_get z.simulation.world.processes q ≡ Some b
      → (rest : _) × (a.committed ++ rest ≡ b.committed)
