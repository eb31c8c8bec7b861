-- What is gathered once the workers of a round are done: only contracts of private functions cite
-- what stands here.
use Rattle.std.specs.Prelude.{◌≡◌, List, All, length, map}
use Rattle.rw_vt.specs.Words.{Time}
use Rattle.rw_vt.specs.declared.event.Letter.{Letter}
use Rattle.rw_lp.specs.Calls.{LogicalProcess}
use Rattle.rw_board.specs.Least.{least}
use Rattle.rw_board.specs.Seats.{BoardState, all_notes}
use Rattle.rw_exchange.specs.Ports.{IsOpening}
use Rattle.rw_rounds.specs.declared.between.Between.{Between}
use Rattle.rw_rounds.specs.declared.between.Rest.{Rest}
use Rattle.rw_rounds.specs.declared.round.RoundWork.{RoundWork}
use Rattle.rw_rounds.specs.Turns.{WorkerState}
use Rattle.rw_rounds.specs.Rounds.{AreOnTheirWay}

-- the processes of each worker, the letters on their way, and as the floor exactly the least of all
-- times noted
pub record IsGathered {M S B : Type 0} (ws : List (WorkerState M S B))
    (shares : List (List (LogicalProcess M S B))) (rest : List (Letter B)) (floor : Time)
    : Type 0 where
  pub shares_are : shares ≡ map (λ w. w.processes) ws
  pub letters : AreOnTheirWay ws rest
  pub floor_is : floor ≡ least (all_notes (map (λ w. w.seat) ws))

-- the workers of this board are done, and no port or seat is missing
pub record AreDone {M S B : Type 0} (its : BoardState) (ws : List (WorkerState M S B))
    : Type 0 where
  pub opening : IsOpening (map (λ w. w.port) ws)
  pub seats : length ws ≡ its.seats
  pub board : All (λ s. s.board ≡ its.board) (map (λ w. w.seat) ws)

-- the segment has the work's model, what its workers hold and the rest, with this time as the floor
pub record IsEnded {M G S B U : Type 0} (work : RoundWork M G S B U) (ws : List (WorkerState M S B))
    (rest : Rest M S B U) (b : Between M G S B U) (floor : Time) : Type 0 where
  pub gathered : IsGathered ws (map (λ h. h.items) b.shares.items) b.letters.items floor
  pub model_is : b.model ≡ work.model
  pub rest_is : b.rest ≡ rest
