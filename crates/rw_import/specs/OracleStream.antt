-- What has come of a log in the oracle-general format whose trace goes out as the log is read.
use Rattle.std.specs.Prelude.{◌≡◌, ◌≤◌, ◌<◌, List, Option, IfOk, length, map, option_map, take, unwrap_or}
use Rattle.std.specs.Io.KnownBytes.{Appends, Consumes, IsAtEnd}
use Rattle.std.specs.List.{range_with_len}
use Rattle.rw_numbers.specs.Words.{Count, Object}
use Rattle.rw_trace.specs.Pieces.{Gives}
use Rattle.rw_trace.specs.Words.{Text}
use Rattle.rw_trace.specs.declared.Kind.TheVariants.{Get}
use Rattle.rw_trace.specs.declared.Row.{Row}
use Rattle.rw_import.specs.Log.{LogTime, Saying, kept_in, rows_for}
use Rattle.rw_import.specs.Oracle.{piece_at, piece_count, piece_said}
use Rattle.rw_import.specs.Sheet.{IsKeepable}
use Rattle.rw_import.specs.Stream.{AreAllRead, IsStreamOf}
use Rattle.rw_import.specs.Streamed.{epoch_of, or_said, since, told_since}
use Rattle.rw_import.specs.declared.options.Options.{Options}
use Rattle.rw_import.specs.declared.stream.Stream.{Stream}

-- so many bytes of a record are read, and where these are not all of it there are no more
pub record IsFilled (old new : Option Text) (n : Count) (piece : Text) : Type 0 where
  pub within : n ≤ length piece
  pub bytes : Consumes old new (take n piece)
  pub short : n < length piece → IsAtEnd new

-- the records of a log
abbrev pub pieces_of : Text → List Text
pieces_of bytes = map (piece_at bytes) (range_with_len 0 (piece_count bytes))

-- those of the bytes that a reader has left, where these are known
abbrev pub pieces_ahead : Option Text → Option (List Text)
pieces_ahead known = option_map pieces_of known

-- what becomes of some records
abbrev pub pieces_told : Options → Option LogTime → List Text → List (Saying Object)
pieces_told o asked pieces = told_since o.ticks 0 asked (map piece_said pieces)

-- the trace's rows of these
abbrev pub pieces_rows : Options → Option LogTime → List Text → List Row
pieces_rows o asked pieces =
    rows_for o (epoch_of asked (map piece_said pieces)) (λ n. n) 0
    (kept_in (pieces_told o asked pieces))

-- what has become of the next record
pub record TellsPiece (o : Options) (old new : Option Text) (known then : Option LogTime)
    (told : Saying Object) : Type 0 where
  pub piece : Text
  pub gives : Gives (pieces_ahead old) piece (pieces_ahead new)
  pub epoch : then ≡ or_said known (piece_said piece)
  pub is : told ≡ since o.ticks (unwrap_or then 0) 0 (piece_said piece)
  pub keepable : IsKeepable o.edges o (unwrap_or then 0) told
  pub get : IfOk told (λ s. s.0.kind ≡ Get)

-- all records of a log are read, and written where they are kept
pub record HasReadOracle (o : Options) (known before after : Option Text)
    (old new : Stream) : Type 0 where
  pub seen : List Text
  pub all : AreAllRead (pieces_ahead known) seen
  pub gone : Text
  pub gained : Appends before after gone
  pub stream : IsStreamOf o.edges o (pieces_rows o old.epoch seen) (pieces_told o old.epoch seen)
      gone new
  pub kinds : new.kinds ≡ old.kinds
