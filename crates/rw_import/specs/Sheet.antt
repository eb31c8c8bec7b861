-- What is collected of a log, one row after the other.
use Rattle.std.specs.Prelude.{◌≡◌, ◌≤◌, ◌<◌, ◌+◌, ◌^◌, ◌++◌, ℕ, List, [], ◌∷◌, Bool, true, false, Result, Ok, Err, Option, Some, None, All, if◌then◌else◌, length, map, nat_le}
use Rattle.std.specs.Global.{Vec}
use Rattle.indexmap.specs.IndexSet.{IndexSet}
use Rattle.rw_numbers.specs.Words.{Count, Object, Position, Time}
use Rattle.rw_trace.specs.Laws.{IsRow}
use Rattle.rw_trace.specs.Limits.{greatest_size, latest_time, most_rows}
use Rattle.rw_trace.specs.Words.{Text}
use Rattle.rw_import.specs.Csv.{number_among, objects_in, with_text}
use Rattle.rw_import.specs.Log.{Edge, IsStrictlyKept, clamped_in, LogTime, Saying, fault_at, kept_in, left_out_of, room_for, row_for, rows_for, ticks_from}
use Rattle.rw_import.specs.declared.options.Options.{Options}
use Rattle.rw_import.specs.declared.fault.ImportFault.{ImportFault}
use Rattle.rw_import.specs.declared.fault.ImportFault.TheVariants as fault
use Rattle.rw_import.specs.declared.sheet.Sheet.{Sheet}
use Rattle.rw_import.specs.declared.fault.Part.TheVariants as part
use Rattle.rw_import.specs.declared.fault.Flaw.{Flaw}
use Rattle.rw_import.specs.declared.fault.Flaw.TheVariants.{Column, Length}
use Rattle.rw_import.specs.declared.entry.Entry.{Entry}
use Rattle.rw_import.specs.declared.entry.LeftOut.{LeftOut}
use Rattle.rw_import.specs.declared.entry.Counts.{Counts}

-- the counts with one more row left out
abbrev pub counts_with : LeftOut → Flaw → LeftOut
counts_with l Length = record l { length = l.length + 1 }
counts_with l (Column c part.Time) = record l { time = l.time + 1 }
counts_with l (Column c part.Edge) = record l { edge = l.edge + 1 }
counts_with l (Column c part.Object) = record l { object = l.object + 1 }
counts_with l (Column c part.Size) = record l { size = l.size + 1 }
counts_with l (Column c part.Kind) = record l { kind = l.kind + 1 }

-- no row left out
abbrev pub no_counts_yet : LeftOut
no_counts_yet = record { length = 0; time = 0; edge = 0; object = 0; size = 0; kind = 0 }

-- each count is at most the rows so far
pub record AreCountsOf (n : Count) (l : LeftOut) : Type 0 where
  pub length : l.length ≤ n
  pub time : l.time ≤ n
  pub edge : l.edge ≤ n
  pub object : l.object ≤ n
  pub size : l.size ≤ n
  pub kind : l.kind ≤ n

-- each count of a sheet is at most the rows so far
abbrev pub IsCounted : Count → Sheet → Type 0
IsCounted n s = AreCountsOf n s.left_out × (s.clamped ≤ n)

-- what has come of the rows of a sheet
abbrev pub counts_in : Sheet → Counts
counts_in s =
    record { kept = length s.rows.items; clamped = s.clamped; left_out = s.left_out }

-- one more kept row, clamped or not
abbrev pub clamped_with : Count → Bool → Count
clamped_with n true = n + 1
clamped_with n false = n

-- an edge that a row names is below the number of edges, and where it names none this is the number that rows are dealt
-- to
abbrev pub IsEdgeIn : Count → Options → Option Edge → Type 0
IsEdgeIn edges o None = o.edges ≡ edges
IsEdgeIn edges o (Some e) = e < edges

-- a kept row has what a trace's row is to have
abbrev pub IsKeepable : Count → Options → LogTime → Saying Object → Type 0
IsKeepable edges o least (Err f) = Unit {0}
IsKeepable edges o least (Ok s) =
    IsEdgeIn edges o s.0.edge × (1 ≤ s.0.size) × (s.0.size ≤ greatest_size) × (s.1 < 2 ^ 64)
    × (s.0.time < 10 ^ 29) × (ticks_from o.ticks least s.0.time ≤ latest_time)

-- the time of a kept row is short, and within those of a trace
abbrev pub IsTimely : Options → LogTime → Saying Object → Type 0
IsTimely o least (Err f) = Unit {0}
IsTimely o least (Ok s) =
    (s.0.time < 10 ^ 29) × (ticks_from o.ticks least s.0.time ≤ latest_time)

-- one more row is kept, or left out
abbrev pub AddsRow : Options → LogTime → Sheet → Sheet → Saying Object → Type 0
AddsRow o least old new (Ok s) =
    (new.rows.items ≡ old.rows.items ++ row_for o least (length old.rows.items) s.1 s.0 ∷ [])
    × (new.left_out ≡ old.left_out) × (length old.rows.items < most_rows)
    × (new.clamped ≡ clamped_with old.clamped s.0.clamped)
AddsRow o least old new (Err f) =
    (new.rows.items ≡ old.rows.items) × (new.left_out ≡ counts_with old.left_out f)
    × (o.strict ≡ false) × (new.clamped ≡ old.clamped)

-- why one more row is refused
abbrev pub RefusesRow : Options → Position → Sheet → Saying Object → ImportFault → Type 0
RefusesRow o row old (Ok s) e =
    (e ≡ fault.TooManyRows) × (most_rows ≤ length old.rows.items)
RefusesRow o row old (Err f) e = (e ≡ fault_at row f) × (o.strict ≡ true)

-- what a row says, its object by number
abbrev pub numbered_by : {O : Type 0} → (O → Object) → Saying O → Saying Object
numbered_by number (Ok s) = Ok (s.0, number s.1)
numbered_by number (Err f) = Err f

-- what a record says but its object, where its time is within those of a trace
abbrev pub entry_in_time : Options → LogTime → Position → Result Entry Flaw → Result Entry Flaw
entry_in_time o least column (Err f) = Err f
entry_in_time o least column (Ok entry) =
    if nat_le (ticks_from o.ticks least entry.time + room_for o) latest_time then Ok entry
    else Err (Column column part.Time)

-- the texts of a set, in its order
abbrev pub texts_in : {S : Type 0} → IndexSet (Vec ℕ) S → List Text
texts_in s = map (λ v. v.items) s.keys

-- the texts so far, with that of a row that is kept
abbrev pub with_kept : List Text → Text → Result Entry Flaw → List Text
with_kept texts text (Ok entry) = with_text texts text
with_kept texts text (Err f) = texts

-- what has been collected of these rows, where each object has its number
pub record IsSheetOf {O : Type 0} (number : O → Object) (edges : Count) (o : Options)
    (least : LogTime) (done : List (Saying O)) (sheet : Sheet) : Type 0 where
  pub rows : sheet.rows.items ≡ rows_for o least number 0 (kept_in done)
  pub count : length sheet.rows.items ≡ length (kept_in done)
  pub left_out : sheet.left_out ≡ left_out_of done
  pub clamped : sheet.clamped ≡ clamped_in (kept_in done)
  pub few : length (kept_in done) ≤ most_rows
  pub strict : IsStrictlyKept o done
  pub ranges : 1 ≤ o.edges → All (IsRow edges) sheet.rows.items

-- the same of a log of fields, where each object's number is that of its text
abbrev pub IsTextSheet : Count → Options → LogTime → List (Saying Text) → Sheet → Type 0
IsTextSheet edges o least told sheet =
    IsSheetOf (number_among (objects_in told)) edges o least told sheet
