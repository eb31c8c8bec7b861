-- Workers that may begin: what the work of a round asks of each.
use Rattle.std.specs.Prelude.{◌≡◌}
use Rattle.std.specs.declared.cmp.Ordering.{Ordering}
use Rattle.rw_board.specs.Seats.{BoardState}
use Rattle.rw_vt.specs.declared.model.Model.{Ghosts}
use Rattle.rw_rounds.specs.Turns.{WorkerState}
use Rattle.rw_rounds.specs.Working.{IsFitAndSound}

-- the worker can take turns with the model m, and its seat is of this board
pub record IsSeated {M S B U : Type 0} (model : Ghosts M S B U) (order : B → B → Ordering)
    (m : M) (its : BoardState) (w : WorkerState M S B) : Type 0 where
  pub fit : IsFitAndSound model order m w
  pub board : w.seat.board ≡ its.board
