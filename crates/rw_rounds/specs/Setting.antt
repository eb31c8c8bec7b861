-- The workers of a round, as they are set up: only contracts of private functions cite this.
use Rattle.std.specs.Prelude.{◌≡◌, ◌%◌, ◌<◌, ◌==◌, List, [], All, filter, length, map, slice_get, slice_index_or, Some}
use Rattle.rw_vt.specs.Words.{Time, Worker}
use Rattle.rw_vt.specs.declared.event.Letter.{Letter}
use Rattle.rw_lp.specs.Calls.{LogicalProcess}
use Rattle.rw_exchange.specs.Ports.{IsNew, IsOpening, StayAnOpening}
use Rattle.rw_board.specs.Seats.{BoardState, new_seat}
use Rattle.rw_rounds.specs.declared.plan.Plan.{Plan}
use Rattle.rw_rounds.specs.declared.between.Between.{Between}
use Rattle.rw_rounds.specs.declared.between.Rest.{Rest}
use Rattle.rw_rounds.specs.declared.round.RoundWork.{RoundWork}
use Rattle.rw_rounds.specs.Turns.{WorkerState}
use Rattle.rw_rounds.specs.Rounds.{role}

-- the workers of the plan have these shares of the processes, share these letters, and have new
-- ports and new seats of this board
pub record AreSetUp {M S B : Type 0} (plan : Plan) (collected : Time)
    (shares : List (List (LogicalProcess M S B))) (letters : List (Letter B)) (its : BoardState)
    (ws : List (WorkerState M S B)) : Type 0 where
  pub many : length ws ≡ plan.workers
  pub roles : (i : Worker) → i < plan.workers
      → slice_get (map (λ w. w.role) ws) i ≡ Some (role plan collected i)
  pub own_processes : map (λ w. w.processes) ws ≡ shares
  pub own_letters : (i : Worker) → i < plan.workers
      → slice_index_or (map (λ w. w.inbox) ws) i []
      ≡ filter (λ l. l.event.to % plan.workers == i) letters
  pub none : All (λ w. (w.kept ≡ []) × (w.aside ≡ [])) ws
  pub opening : IsOpening (map (λ w. w.port) ws)
  pub stays : StayAnOpening (map (λ w. w.port) ws)
  pub new_ports : All IsNew (map (λ w. w.port) ws)
  pub seats : its.seats ≡ plan.workers
  pub new_seats : All (λ s. s ≡ new_seat its.board) (map (λ w. w.seat) ws)

-- the workers of a round are set up with what the segment has: the work has the model and their
-- board
pub record IsBegun {M G S B U : Type 0} (plan : Plan) (b : Between M G S B U)
    (work : RoundWork M G S B U) (ws : List (WorkerState M S B)) (rest : Rest M S B U)
    : Type 0 where
  pub set_up : AreSetUp plan b.rest.collected (map (λ h. h.items) b.shares.items) b.letters.items
      work.board ws
  pub model_is : work.model ≡ b.model
  pub turns_are : work.turns ≡ plan.turns
  pub rest_is : rest ≡ b.rest
