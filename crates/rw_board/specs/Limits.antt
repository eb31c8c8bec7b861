-- The limit of a board, by its number.
use Rattle.rw_vt.specs.Words.{Count}

-- the most seats
abbrev pub most_seats : Count
most_seats = 16
