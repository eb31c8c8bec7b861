-- What a contract sees of a board and of its seats.
use Rattle.std.specs.Prelude.{List, [], ◌∷◌, ◌++◌}
use Rattle.atomic_table.specs.Seated.{TableId}
use Rattle.rw_vt.specs.Words.{Count, Time}
use Rattle.rw_vt.specs.Limits.{end_of_time}

-- a board: which one it is, and how many seats it was opened with
pub record BoardState : Type 0 where
  pub board : TableId
  pub seats : Count

-- a seat: which board it belongs to, the times that it noted, in order, and its last reading
pub record SeatState : Type 0 where
  pub board : TableId
  pub noted : List Time
  pub read : Time

-- a seat that has noted nothing and read nothing
abbrev pub new_seat : TableId → SeatState
new_seat board = record { board = board; noted = []; read = end_of_time }

-- the seat, once it has noted the time
abbrev pub after_note : SeatState → Time → SeatState
after_note seat time = record seat { noted = seat.noted ++ time ∷ [] }

-- the seat, once it has read the time
abbrev pub after_reading : SeatState → Time → SeatState
after_reading seat found = record seat { read = found }

-- all times noted by some seats, one seat after another
abbrev pub all_notes : List SeatState → List Time
all_notes [] = []
all_notes (seat ∷ seats) = seat.noted ++ all_notes seats
