-- A trace whose rows stand in order of time, and how it is read piece by piece from a reader of any kind, where the
-- bytes that it gives are known.
use Rattle.std.specs.Prelude.{◌≡◌, ◌≢◌, ◌≤◌, ◌+◌, ◌==◌, if◌then◌else◌, nat_lt, List, [], ◌∷◌, Option, Some, None, Ok, Err, option_map, false, true, ⊤}
use Rattle.csv.specs.Reading.{Ready, has_failed, is_flexible, reader_config, reader_state, reader_trim, source_of}
use Rattle.csv.specs.declared.reader.Reader.{Reader}
use Rattle.csv.specs.declared.reader.Trim.TheVariants as trim
use Rattle.rw_numbers.specs.Words.{Count, Position, Time}
use Rattle.rw_trace.specs.Words.{Text, Fields, OrFault}
use Rattle.rw_trace.specs.Trace.{◌>>=◌, or_fault, row_before, row_of, version_of}
use Rattle.rw_trace.specs.Unread.{records_left}
use Rattle.rw_trace.specs.declared.Row.{Row}
use Rattle.rw_trace.specs.declared.TraceFault.TheVariants as fault
use Rattle.rw_trace.specs.declared.Version.{Version}
use Rattle.rw_trace.specs.declared.pieces.RowsFault.{RowsFault}
use Rattle.rw_trace.specs.declared.pieces.RowsFault.TheVariants as refused

-- a row before the rows that follow it, where it is not before this time, or the fault of row n
abbrev pub row_in_order : Position → Time → Row → OrFault (List Row) → OrFault (List Row)
row_in_order n t r rest =
    if nat_lt r.time t then Err (fault.Order n) else row_before r rest

-- the rows of some records, where none is before time t or before the row in front of it; the first is row n. Or the
-- first fault, that of a row by itself before its place in the order; row `most` is one too many
unfoldable pub ordered_rows_of : Version → Count → Count → Position → Time → List Fields
    → OrFault (List Row)
ordered_rows_of version edges most n t [] = Ok []
ordered_rows_of version edges most n t (r ∷ rs) =
    if n == most then Err fault.TooManyRows
    else row_of version edges n r
    >>= (λ row. row_in_order n t row (ordered_rows_of version edges most (n + 1) row.time rs))

-- the rows of a trace that stand in order of time, or its first fault
unfoldable pub ordered_trace_of : Count → Count → List Fields → OrFault (List Row)
ordered_trace_of edges most [] = Err fault.Header
ordered_trace_of edges most (h ∷ rs) =
    or_fault fault.Header (version_of h)
    >>= (λ version. ordered_rows_of version edges most 0 0 rs)

-- what is still to come, where the bytes are known: the rows, or the first fault
abbrev pub Ahead : Type 0
Ahead = Option (OrFault (List Row))

-- what a reader of pieces has still to give: its rows are of these edges, none is before this time, they are at most so
-- many, and what they are
pub record RowsAhead : Type 0 where
  pub edges : Count
  pub latest : Time
  pub most : Count
  pub ahead : Ahead

-- the records that a reader has still to give
abbrev pub records_ahead : {R : Type 0} → (R → Option Text) → Reader R → Option (List Fields)
records_ahead rem r =
    option_map (λ xs. records_left (reader_config r) (reader_state r) (Some xs)) (source_of rem r)

-- each read gives one record as it stands, of any length
pub record ReadsEach {R : Type 0} (r : Reader R) : Type 0 where
  pub plain : reader_trim r ≡ trim.None
  pub ready : Ready r
  pub flexible : is_flexible r ≡ true

-- so it is, unless a read has failed
abbrev pub MayRead : {R : Type 0} → Reader R → Type 0
MayRead r = has_failed r ≡ false → ReadsEach r

-- a record comes first, and then what is still to come
abbrev pub Gives : {A : Type 0} → Option (List A) → A → Option (List A) → Type 0
Gives None x after = ⊤
Gives (Some all) x None = ⊥
Gives (Some all) x (Some rest) = all ≡ x ∷ rest

-- nothing is still to come
abbrev pub GivesNone : {A : Type 0} → Option (List A) → Type 0
GivesNone None = ⊤
GivesNone (Some all) = all ≡ []

-- these rows before what follows them
abbrev pub rows_before : List Row → OrFault (List Row) → OrFault (List Row)
rows_before [] rest = rest
rows_before (r ∷ rs) rest = row_before r (rows_before rs rest)

-- these rows come first, and then what is still to come
abbrev pub ComeFirst : Ahead → List Row → Ahead → Type 0
ComeFirst None rows after = ⊤
ComeFirst (Some all) rows None = ⊥
ComeFirst (Some all) rows (Some rest) = all ≡ rows_before rows rest

-- these rows are all that is still to come
abbrev pub AreAll : Ahead → List Row → Type 0
AreAll None rows = ⊤
AreAll (Some all) rows = all ≡ Ok rows

-- no row is before this time, or before the row in front of it
abbrev pub RiseFrom : Time → List Row → Type 0
RiseFrom t [] = ⊤
RiseFrom t (r ∷ rs) = (t ≤ r.time) × RiseFrom r.time rs

-- the time of the last row, or else this one
abbrev pub last_time : Time → List Row → Time
last_time t [] = t
last_time t (r ∷ rs) = last_time r.time rs

-- why what is still to come is refused: its first fault
abbrev pub IsRefusal : Ahead → RowsFault → Type 0
IsRefusal None e = ⊤
IsRefusal (Some all) (refused.Trace f) = f ≢ fault.Memory → all ≡ Err f
IsRefusal (Some all) refused.Read = ⊤
