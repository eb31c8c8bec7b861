-- What the rows of a log have come to so far, where their trace goes out as they are read.
use Rattle.std.specs.Prelude.{◌≡◌, ◌≤◌, ◌<◌, ◌+◌, ◌++◌, ◌⊎◌, List, [], All, Bool, true, false, Ok, Err, Option, Some, None, Result, codes, length, unwrap_or, ⊤, if◌then◌else◌}
use Rattle.std.specs.Io.KnownBytes.{Appends}
use Rattle.rw_numbers.specs.Words.{Count, Object, Position, Time}
use Rattle.rw_trace.specs.Laws.{IsRow}
use Rattle.rw_trace.specs.Limits.{most_streamed_rows}
use Rattle.rw_trace.specs.Words.{Text}
use Rattle.rw_import.specs.Lines.{row_line, trace_header, trace_lines}
use Rattle.rw_import.specs.Log.{LogTime, Saying, clamped_in, fault_at, kept_in, left_out_of, row_for}
use Rattle.rw_trace.specs.declared.Row.{Row}
use Rattle.rw_import.specs.Sheet.{AreCountsOf, clamped_with, counts_with, no_counts_yet}
use Rattle.rw_import.specs.Written.{NamesPurges}
use Rattle.rw_import.specs.Streamed.{AreTaken, is_timely, last_log_time}
use Rattle.rw_import.specs.declared.entry.Counts.{Counts}
use Rattle.rw_import.specs.declared.entry.Entry.{Entry}
use Rattle.rw_import.specs.declared.fault.Flaw.{Flaw}
use Rattle.rw_import.specs.declared.fault.Flaw.TheVariants.{Column}
use Rattle.rw_import.specs.declared.fault.ImportFault.{ImportFault}
use Rattle.rw_import.specs.declared.fault.ImportFault.TheVariants as fault
use Rattle.rw_import.specs.declared.fault.Part.TheVariants as part
use Rattle.rw_import.specs.declared.options.Options.{Options}
use Rattle.rw_import.specs.declared.stream.Stream.{Stream}

-- what has come of the rows of a stream
abbrev pub counts_so_far : Stream → Counts
counts_so_far s = record { kept = s.kept; clamped = s.clamped; left_out = s.left_out }

-- each count of a stream is at most the rows so far
abbrev pub AreLinesCounted : Count → Stream → Type 0
AreLinesCounted n s = AreCountsOf n s.left_out × (s.clamped ≤ n)

-- what a record says but its object, where its time is one of the trace
abbrev pub entry_since : Time → LogTime → Position → Result Entry Flaw → Result Entry Flaw
entry_since ticks epoch column (Err f) = Err f
entry_since ticks epoch column (Ok entry) =
    if is_timely ticks epoch entry.time then Ok entry else Err (Column column part.Time)

-- the line of a kept row
abbrev pub line_for : Options → Stream → Entry → Object → Text
line_for o s entry object =
    row_line s.kinds (row_for o (unwrap_or s.epoch 0) s.kept object entry)

-- one more row is kept
pub record KeepsLine (o : Options) (old new : Stream) (entry : Entry)
    (object : Object) : Type 0 where
  pub text : new.text.items ≡ old.text.items ++ line_for o old entry object
  pub kept : new.kept ≡ old.kept + 1
  pub latest : new.latest ≡ entry.time
  pub left_out : new.left_out ≡ old.left_out
  pub clamped : new.clamped ≡ clamped_with old.clamped entry.clamped
  pub kinds : new.kinds ≡ old.kinds
  pub begun : new.begun ≡ old.begun
  pub epoch : new.epoch ≡ old.epoch
  pub few : old.kept < most_streamed_rows
  pub ordered : old.latest ≤ entry.time

-- one more row is left out
pub record LeavesOut (o : Options) (old new : Stream) (flaw : Flaw) : Type 0 where
  pub text : new.text.items ≡ old.text.items
  pub kept : new.kept ≡ old.kept
  pub latest : new.latest ≡ old.latest
  pub left_out : new.left_out ≡ counts_with old.left_out flaw
  pub clamped : new.clamped ≡ old.clamped
  pub kinds : new.kinds ≡ old.kinds
  pub begun : new.begun ≡ old.begun
  pub epoch : new.epoch ≡ old.epoch
  pub lenient : o.strict ≡ false

abbrev pub AddsLine : Options → Stream → Stream → Saying Object → Type 0
AddsLine o old new (Ok s) = KeepsLine o old new s.0 s.1
AddsLine o old new (Err f) = LeavesOut o old new f

-- why one more row is refused
abbrev pub RefusesLine : Options → Position → Stream → Saying Object → ImportFault → Type 0
RefusesLine o row old (Err f) e = (o.strict ≡ true) × (e ≡ fault_at row f)
RefusesLine o row old (Ok s) e =
    ((most_streamed_rows ≤ old.kept) × (e ≡ fault.TooManyRows))
    ⊎ ((old.kept < most_streamed_rows) × (s.0.time < old.latest) × (e ≡ fault.Order row))

-- the counts stay, and how lines are written
pub record KeepsCounts (old new : Stream) : Type 0 where
  pub kept : new.kept ≡ old.kept
  pub latest : new.latest ≡ old.latest
  pub left_out : new.left_out ≡ old.left_out
  pub clamped : new.clamped ≡ old.clamped
  pub kinds : new.kinds ≡ old.kinds

-- all lines that wait go out
pub record SendsAll (before after : Option Text) (old new : Stream) : Type 0 where
  pub gained : Appends before after old.text.items
  pub none : new.text.items ≡ []
  pub begun : new.begun ≡ true
  pub epoch : new.epoch ≡ old.epoch
  pub same : KeepsCounts old new

-- all lines that wait go out, or none of them
abbrev pub SendsAllOrNone : Option Text → Option Text → Stream → Stream → Type 0
SendsAllOrNone before after old new =
    SendsAll before after old new ⊎ ((new ≡ old) × (after ≡ before))

-- what has gone out: nothing, or the header and the lines of some rows
pub record AreWholeLines (edges : Count) (begun kinds : Bool) (gone : Text) : Type 0 where
  pub none : begun ≡ false → gone ≡ []
  pub some : begun ≡ true
      → (sent : List Row) × (gone ≡ trace_lines kinds sent) × All (IsRow edges) sent

-- the same of what a writer has gained
pub record HasSentWhole (edges : Count) (begun kinds : Bool)
    (before after : Option Text) : Type 0 where
  pub gone : Text
  pub gained : Appends before after gone
  pub whole : AreWholeLines edges begun kinds gone

-- the line that ends a trace which is cut off: none where nothing has gone out
abbrev pub fault_line : Bool → Text
fault_line false = []
fault_line true = codes "fault\n"

-- what has come of the rows of a log, of which these are the trace's: the lines that have gone out, and then those that
-- wait, are the trace's
pub record IsStreamOf {O : Type 0} (edges : Count) (o : Options) (rows : List Row)
    (told : List (Saying O)) (gone : Text) (s : Stream) : Type 0 where
  pub lines : gone ++ s.text.items ≡ trace_lines s.kinds rows
  pub taken : AreTaken o told
  pub kept : s.kept ≡ length (kept_in told)
  pub latest : s.latest ≡ last_log_time 0 (kept_in told)
  pub left_out : s.left_out ≡ left_out_of told
  pub clamped : s.clamped ≡ clamped_in (kept_in told)
  pub ranges : 1 ≤ o.edges → All (IsRow edges) rows
  pub named : NamesPurges s.kinds rows
  pub whole : AreWholeLines edges s.begun s.kinds gone

-- nothing has come yet
pub record IsFresh (s : Stream) : Type 0 where
  pub text : s.text.items ≡ trace_header s.kinds
  pub begun : s.begun ≡ false
  pub latest : s.latest ≡ 0
  pub kept : s.kept ≡ 0
  pub left_out : s.left_out ≡ no_counts_yet
  pub clamped : s.clamped ≡ 0

-- the records that are read before some that are still to come, where these are known
abbrev pub ReadsUpTo : {A : Type 0} → Option (List A) → List A → Option (List A) → Type 0
ReadsUpTo None seen after = ⊤
ReadsUpTo (Some all) seen None = ⊥
ReadsUpTo (Some all) seen (Some rest) = all ≡ seen ++ rest

-- these records are all, where all are known
abbrev pub AreAllRead : {A : Type 0} → Option (List A) → List A → Type 0
AreAllRead None seen = ⊤
AreAllRead (Some all) seen = all ≡ seen
