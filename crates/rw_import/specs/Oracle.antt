-- What the records of the oracle-general format say.
use Rattle.std.specs.Prelude.{◌+◌, ◌-◌, ◌*◌, ◌/◌, ◌==◌, List, Ok, Err, None, drop, false, length, map, nat_lt, take, if◌then◌else◌}
use Rattle.std.specs.List.{range_with_len}
use Rattle.byteorder.specs.Endian.{little_number}
use Rattle.rw_numbers.specs.Words.{Count, Object, Position}
use Rattle.rw_trace.specs.Words.{Text}
use Rattle.rw_trace.specs.declared.Kind.TheVariants.{Get}
use Rattle.rw_import.specs.declared.fault.Part.TheVariants as part
use Rattle.rw_import.specs.declared.fault.Flaw.TheVariants.{Column, Length}
use Rattle.rw_trace.specs.declared.Row.{Row}
use Rattle.rw_import.specs.Log.{LogTime, Saying, billion, first_time, in_time, kept_in, rows_for, told_apart}
use Rattle.rw_import.specs.Spread.{spread_if}
use Rattle.rw_import.specs.declared.options.Options.{Options}

-- the bytes of a record
abbrev pub piece_length : Count
piece_length = 24

-- the record at a place, of which the last may be cut off
abbrev pub piece_at : Text → Position → Text
piece_at bytes n = take piece_length (drop (n * piece_length) bytes)

-- how many records there are, with one that is cut off
abbrev pub piece_count : Text → Count
piece_count bytes = (length bytes + (piece_length - 1)) / piece_length

-- what a record says: 4 bytes of time, 8 of object, 4 of size, and 8 that say nothing here
unfoldable pub piece_said : Text → Saying Object
piece_said piece =
    if nat_lt (length piece) piece_length then Err Length
    else if little_number 4 (drop 12 piece) == 0 then Err (Column 2 part.Size)
    else Ok (
      record {
        time = little_number 4 piece * billion;
        edge = None;
        size = little_number 4 (drop 12 piece);
        clamped = false;
        kind = Get;
      },
      little_number 8 (drop 4 piece),
    )

-- what the records of a log say
abbrev pub oracle_said : Text → List (Saying Object)
oracle_said bytes = map (λ n. piece_said (piece_at bytes n)) (range_with_len 0 (piece_count bytes))

-- what becomes of each record
abbrev pub oracle_told : Options → Text → List (Saying Object)
oracle_told o bytes = told_apart o 0 (oracle_said bytes)

-- the trace's rows of a log before any is spread
abbrev pub oracle_rows_unspread : Options → Text → List Row
oracle_rows_unspread o bytes =
    rows_for o (first_time (oracle_said bytes)) (λ n. n) 0 (kept_in (oracle_told o bytes))

-- the trace's rows of a log
abbrev pub oracle_rows : Options → Text → List Row
oracle_rows o bytes = spread_if o (oracle_rows_unspread o bytes)

-- what becomes of the record at a place, where the least time is known
abbrev pub judged_at : Options → LogTime → Text → Position → Saying Object
judged_at o least bytes n = in_time o least 0 (piece_said (piece_at bytes n))

-- what becomes of each record then
abbrev pub judged_all : Options → LogTime → Text → List (Saying Object)
judged_all o least bytes = map (judged_at o least bytes) (range_with_len 0 (piece_count bytes))
