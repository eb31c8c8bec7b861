-- The rows of a log in the oracle-general format where they have to stand in order of time, and how they are read one
-- by one.
use Rattle.std.specs.Prelude.{◌≡◌, ◌+◌, ◌==◌, if◌then◌else◌, List, [], ◌∷◌, Option, Ok, Err, map, option_map}
use Rattle.rw_numbers.specs.Words.{Count, Object, Position, Time}
use Rattle.rw_trace.specs.Limits.{most_streamed_rows}
use Rattle.rw_trace.specs.Pieces.{Ahead, ComeFirst, row_in_order}
use Rattle.rw_trace.specs.Words.{OrFault, Text}
use Rattle.rw_trace.specs.declared.Row.{Row}
use Rattle.rw_trace.specs.declared.TraceFault.TheVariants as fault
use Rattle.rw_import.specs.Log.{LogTime, Said, Saying, row_for}
use Rattle.rw_import.specs.Oracle.{oracle_said, piece_said}
use Rattle.rw_import.specs.OracleStream.{TellsPiece, pieces_ahead, pieces_told}
use Rattle.rw_import.specs.Streamed.{epoch_of, oracle_told_since}
use Rattle.rw_import.specs.declared.options.Options.{Options}
use Rattle.rw_import.specs.declared.options.Streaming.{Streaming}

-- ---- the rows of a log
-- the rows of the records that are kept, where it is told what becomes of each record; the first is record n, and
-- stands behind `kept` rows. No row is before tick t, or before the row in front of it. Or the first fault: one row too
-- many, or else a row out of order, by the number of its record
unfoldable pub ordered_kept_rows : Options → LogTime → Position → Count → Time
    → List (Saying Object) → OrFault (List Row)
ordered_kept_rows o epoch n kept t [] = Ok []
ordered_kept_rows o epoch n kept t (Err f ∷ told) = ordered_kept_rows o epoch (n + 1) kept t told
ordered_kept_rows o epoch n kept t (Ok s ∷ told) =
    if kept == most_streamed_rows then Err fault.TooManyRows
    else row_in_order n t (row_for o epoch kept s.1 s.0)
    (ordered_kept_rows o epoch (n + 1) (kept + 1) (row_for o epoch kept s.1 s.0).time told)

-- the rows of a log, or its first fault
abbrev pub ordered_oracle_rows : Streaming → Text → OrFault (List Row)
ordered_oracle_rows s bytes =
    ordered_kept_rows s.options (epoch_of s.epoch (oracle_said bytes)) 0 0 0
    (oracle_told_since s bytes)

-- ---- how they are read
-- the rows of the records that are left, where the epoch may be known already
abbrev pub ordered_piece_rows : Options → Option LogTime → Position → Count → Time → List Text
    → OrFault (List Row)
ordered_piece_rows o known n kept t pieces =
    ordered_kept_rows o (epoch_of known (map piece_said pieces)) n kept t
    (pieces_told o known pieces)

-- what a reader has still to give, where the bytes that it has left are known
abbrev pub oracle_ahead : Options → Option LogTime → Position → Count → Time → Option Text → Ahead
oracle_ahead o known n kept t bytes =
    option_map (ordered_piece_rows o known n kept t) (pieces_ahead bytes)

-- the records that are read are left out: what is still to come stays the same, behind however many rows and whatever
-- the tick of the last one. Record n was the next one, and now record m is
pub record LeavesAllOut (o : Options) (known next : Option LogTime) (n m : Position)
    (old new : Option Text) : Type 0 where
  pub stays : (kept : Count) (t : Time)
      → ComeFirst (oracle_ahead o known n kept t old) [] (oracle_ahead o next m kept t new)

-- the last record that is read is kept, and all before it are left out
pub record FindsKept (o : Options) (known next : Option LogTime) (n m : Position)
    (old new : Option Text) (s : Said Object) : Type 0 where
  pub at : Position
  pub epoch : Option LogTime
  pub before : Option Text
  pub left_out : LeavesAllOut o known epoch n at old before
  pub tells : TellsPiece o before new epoch next (Ok s)
  pub number : m ≡ at + 1
