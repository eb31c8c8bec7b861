-- What a log means whose trace is written as the log is read: it is read once, and no row waits for a later one.
use Rattle.std.specs.Prelude.{◌≡◌, ◌≤◌, ◌<◌, ◌⊎◌, ◌++◌, ◌&&◌, ℕ, List, [], ◌∷◌, Bool, true, Option, Some, None, Ok, Err, Result, fold, is_some, length, map, nat_le, unwrap_or, if◌then◌else◌}
use Rattle.std.specs.Io.KnownBytes.{Appends}
use Rattle.rw_numbers.specs.Words.{Count, Position, Time}
use Rattle.rw_report.specs.Sink.{one_more}
use Rattle.rw_trace.specs.Limits.{latest_time, most_streamed_rows}
use Rattle.rw_trace.specs.Pieces.{ordered_trace_of}
use Rattle.rw_trace.specs.Trace.{trace_of}
use Rattle.rw_trace.specs.Unread.{records_of}
use Rattle.rw_trace.specs.Words.{Text}
use Rattle.rw_trace.specs.declared.Row.{Row}
use Rattle.rw_import.specs.Csv.{IsOpenQuote, columns_found, csv_said, log_records, number_among, objects_in, time_column}
use Rattle.rw_import.specs.Log.{IsErrorOfLosses, IsStrictlyKept, row_counts, LogTime, Said, Saying, fault_at, kept_in, rows_for, ticks_from}
use Rattle.rw_import.specs.Oracle.{oracle_said}
use Rattle.rw_import.specs.Written.{BeginsWithHeader}
use Rattle.rw_import.specs.declared.fault.Flaw.TheVariants.{Column}
use Rattle.rw_import.specs.declared.fault.ImportFault.{ImportFault}
use Rattle.rw_import.specs.declared.fault.ImportFault.TheVariants as fault
use Rattle.rw_import.specs.declared.fault.Part.TheVariants as part
use Rattle.rw_import.specs.declared.layout.Layout.{Layout}
use Rattle.rw_import.specs.declared.layout.Places.{Places}
use Rattle.rw_import.specs.declared.options.Options.{Options}
use Rattle.rw_import.specs.declared.options.Streaming.{Streaming}

-- ---- the epoch: the log time that is tick 0
-- the epoch, where it is known, or else the time of a row, if it says one
abbrev pub or_said : {O : Type 0} → Option LogTime → Saying O → Option LogTime
or_said (Some t) s = Some t
or_said None (Ok s) = Some s.0.time
or_said None (Err f) = None

-- the epoch of a log: the one that is asked for, or else that of the first row that says one, or 0 where none does
abbrev pub epoch_of : {O : Type 0} → Option LogTime → List (Saying O) → LogTime
epoch_of asked said = unwrap_or (fold or_said asked said) 0

-- whether a time is one of a trace that begins at the epoch: not before it, nor past the latest one of a trace
abbrev pub is_timely : Time → LogTime → LogTime → Bool
is_timely ticks epoch time = nat_le epoch time && nat_le (ticks_from ticks epoch time) latest_time

-- a row of any other time is left out, for its time, which stands in this column
abbrev pub since : {O : Type 0} → Time → LogTime → Position → Saying O → Saying O
since ticks epoch column (Ok s) =
    if is_timely ticks epoch s.0.time then Ok s else Err (Column column part.Time)
since ticks epoch column (Err f) = Err f

-- what becomes of each row: it is kept with what it says, or left out for what is wrong
abbrev pub told_since : {O : Type 0} → Time → Position → Option LogTime → List (Saying O)
    → List (Saying O)
told_since ticks column asked said = map (since ticks (epoch_of asked said) column) said

-- ---- the order of rows
-- no kept row is before this time, or before the kept row in front of it
abbrev pub StandInOrder : {O : Type 0} → LogTime → List (Said O) → Type 0
StandInOrder t [] = Unit {0}
StandInOrder t (s ∷ ss) = (t ≤ s.0.time) × StandInOrder s.0.time ss

-- the time of the last kept row, or else this one
abbrev pub last_log_time : {O : Type 0} → LogTime → List (Said O) → LogTime
last_log_time t [] = t
last_log_time t (s ∷ ss) = last_log_time s.0.time ss

-- rows of which none is refused: strict, all are kept; and those that are kept stand in order, and are not too many
pub record AreTaken {O : Type 0} (o : Options) (told : List (Saying O)) : Type 0 where
  pub strict : IsStrictlyKept o told
  pub ordered : StandInOrder 0 (kept_in told)
  pub few : length (kept_in told) ≤ most_streamed_rows

-- why a row is refused that comes behind others: strict, since it is left out; kept, since it is one too many, or else
-- before the kept row in front of it
abbrev pub IsRefusedBehind : {O : Type 0} → Options → List (Saying O) → Saying O → ImportFault
    → Type 0
IsRefusedBehind o before (Err f) e = (o.strict ≡ true) × (e ≡ fault_at (length before) f)
IsRefusedBehind o before (Ok s) e =
    ((length (kept_in before) ≡ most_streamed_rows) × (e ≡ fault.TooManyRows))
    ⊎ ((length (kept_in before) < most_streamed_rows)
    × (s.0.time < last_log_time 0 (kept_in before)) × (e ≡ fault.Order (length before)))

-- the first row that is refused, and why
pub record IsFirstRefused {O : Type 0} (o : Options) (told : List (Saying O))
    (e : ImportFault) : Type 0 where
  pub before : List (Saying O)
  pub row : Saying O
  pub after : List (Saying O)
  pub parts : told ≡ before ++ (row ∷ after)
  pub taken : AreTaken o before
  pub refused : IsRefusedBehind o before row e

-- ---- logs of fields, and of the oracle-general format
-- what becomes of each row of a log of fields
abbrev pub csv_told_since : Layout → Streaming → Text → List (Saying Text)
csv_told_since l s bytes =
    told_since s.options.ticks (time_column (columns_found l (log_records l bytes))) s.epoch
    (csv_said l s.options bytes)

-- the rows of its trace
abbrev pub csv_rows_since : Layout → Streaming → Text → List Row
csv_rows_since l s bytes =
    rows_for s.options (epoch_of s.epoch (csv_said l s.options bytes))
    (number_among (objects_in (csv_told_since l s bytes))) 0 (kept_in (csv_told_since l s bytes))

-- whether its trace names kinds
abbrev pub names_kinds : Layout → Bool
names_kinds l = is_some l.kind

-- too few of its rows are kept
abbrev pub IsTooFewKept : {O : Type 0} → Options → List (Saying O) → ImportFault → Type 0
IsTooFewKept o told e = IsErrorOfLosses o (row_counts told) e

-- why a log is refused for its rows
abbrev pub IsStreamRefusal : {O : Type 0} → Options → List (Saying O) → ImportFault → Type 0
IsStreamRefusal o told e = IsFirstRefused o told e ⊎ IsTooFewKept o told e

-- why one is refused that has line ends only between records: its columns are not found, or for its rows
abbrev pub IsTableRefusal : Options → List (Saying Text) → Result Places ImportFault → ImportFault
    → Type 0
IsTableRefusal o told (Err f) e = e ≡ f
IsTableRefusal o told (Ok p) e = IsStreamRefusal o told e

-- why a log of fields is refused
abbrev pub IsCsvRefusal : Layout → Streaming → Text → ImportFault → Type 0
IsCsvRefusal l s bytes e =
    IsOpenQuote l.quotes (log_records l bytes) e
    ⊎ IsTableRefusal s.options (csv_told_since l s bytes) (columns_found l (log_records l bytes)) e

-- what becomes of each record of the oracle-general format
abbrev pub oracle_told_since : Streaming → Text → List (Saying ℕ)
oracle_told_since s bytes = told_since s.options.ticks 0 s.epoch (oracle_said bytes)

-- the rows of its trace
abbrev pub oracle_rows_since : Streaming → Text → List Row
oracle_rows_since s bytes =
    rows_for s.options (epoch_of s.epoch (oracle_said bytes)) (λ n. n) 0
    (kept_in (oracle_told_since s bytes))

-- ---- what goes out
-- a writer, where it tells, has gained a text that is a trace of these rows, also for a reader that wants them in order
-- of time, and whose header names kinds or does not
pub record GainsTrace (edges : Count) (kinds : Bool) (rows : List Row)
    (old new : Option Text) : Type 0 where
  pub text : Text
  pub gained : Appends old new text
  pub trace : trace_of edges most_streamed_rows (records_of text) ≡ Ok rows
  pub ordered : ordered_trace_of edges most_streamed_rows (records_of text) ≡ Ok rows
  pub header : BeginsWithHeader kinds text

-- a writer, where it tells, has gained a text that is no trace, of however many edges and rows; it may be empty
pub record GainsNoTrace (old new : Option Text) : Type 0 where
  pub text : Text
  pub gained : Appends old new text
  pub none : (edges most : Count) (rows : List Row)
      → trace_of edges most (records_of text) ≡ Ok rows → ⊥

-- a fault of the log, and not of memory, the reader or the writer
abbrev pub IsOfLog : ImportFault → Type 0
IsOfLog fault.Memory = ⊥
IsOfLog fault.Read = ⊥
IsOfLog fault.Output = ⊥
IsOfLog e = Unit {0}

-- a writer counts one failure more for a fault that is its own, and none for another
abbrev pub CountsFault : ImportFault → ℕ → ℕ → Type 0
CountsFault fault.Output old new = new ≡ one_more old
CountsFault e old new = new ≡ old

-- the same of an answer
abbrev pub CountsFailure : {A : Type 0} → Result A ImportFault → ℕ → ℕ → Type 0
CountsFailure (Ok x) old new = new ≡ old
CountsFailure (Err e) old new = CountsFault e old new
