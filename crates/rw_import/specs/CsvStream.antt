-- What has come of a log of fields whose trace goes out as the log is read.
use Rattle.std.specs.Prelude.{◌≡◌, ◌⊎◌, ℕ, Bool, List, Option, Some, None, Ok, Err, IfOk, false, map, unwrap_or, ⊤}
use Rattle.csv.specs.declared.reader.Reader.{Reader}
use Rattle.std.specs.Io.KnownBytes.{Appends}
use Rattle.std.specs.List.{position_or_len}
use Rattle.rw_numbers.specs.Words.{Count, Object}
use Rattle.rw_trace.specs.Pieces.{Gives, records_ahead}
use Rattle.rw_trace.specs.Words.{Fields, Text}
use Rattle.rw_trace.specs.declared.Row.{Row}
use Rattle.rw_trace.specs.declared.Kind.TheVariants.{Get}
use Rattle.rw_import.specs.Csv.{IsOpenQuote, beside, columns_found, has_its_lines, have_their_lines, entry_of, field_in, is_same_text, number_among, objects_in, record_said, rows_under}
use Rattle.rw_import.specs.Log.{LogTime, Saying, kept_in, rows_for}
use Rattle.rw_import.specs.Sheet.{IsKeepable, texts_in, with_kept}
use Rattle.rw_import.specs.Stream.{AreAllRead, IsStreamOf, entry_since}
use Rattle.rw_import.specs.Streamed.{IsFirstRefused, epoch_of, or_said, told_since}
use Rattle.rw_import.specs.declared.csv_stream.Log.{Log}
use Rattle.rw_import.specs.declared.fault.ImportFault.{ImportFault}
use Rattle.rw_import.specs.declared.fault.ImportFault.TheVariants as fault
use Rattle.rw_import.specs.declared.layout.Layout.{Layout}
use Rattle.rw_import.specs.declared.layout.Places.{Places}
use Rattle.rw_import.specs.declared.layout.Quotes.{Quotes}
use Rattle.rw_import.specs.declared.options.Options.{Options}
use Rattle.rw_import.specs.declared.stream.Stream.{Stream}

-- of records that are known, the columns stand there, and the rows are those that are still to come
abbrev pub FindsColumns : Layout → Option (List Fields) → Places → Option (List Fields) → Type 0
FindsColumns l None p after = ⊤
FindsColumns l (Some records) p None = ⊥
FindsColumns l (Some records) p (Some rows) =
    (columns_found l records ≡ Ok p) × (rows_under l records ≡ rows)
    × (have_their_lines l.quotes records ≡ have_their_lines l.quotes rows)

-- why they are not found: they are not there, or a field of the header has a line end inside it
abbrev pub IsColumnsFault : Layout → List Fields → ImportFault → Type 0
IsColumnsFault l records e =
    IsOpenQuote l.quotes records e ⊎ (columns_found l records ≡ Err e)

-- what becomes of some records, where the columns stand there
abbrev pub records_told : Places → Count → Options → Option LogTime → List Fields
    → List (Saying Text)
records_told p edges o asked records =
    told_since o.ticks p.time asked (map (record_said p edges) records)

-- the trace's rows of these
abbrev pub records_rows : Places → Count → Options → Option LogTime → List Fields → List Row
records_rows p edges o asked records =
    rows_for o (epoch_of asked (map (record_said p edges) records))
    (number_among (objects_in (records_told p edges o asked records))) 0
    (kept_in (records_told p edges o asked records))

-- what has become of the next record, whose object has its number among the texts so far and its own
pub record TellsRecord {R : Type 0} (rem : R → Option Text) (o : Options) (old new : Log R)
    (known then : Option LogTime) (told : Saying Object) : Type 0 where
  pub fields : Fields
  pub gives : Gives (records_ahead rem old.reader) fields (records_ahead rem new.reader)
  pub epoch : then ≡ or_said known (record_said old.places old.edges fields)
  pub is : told
      ≡ beside (position_or_len (is_same_text (field_in fields old.places.object))
      (texts_in old.texts))
      (entry_since o.ticks (unwrap_or then 0) old.places.time
      (entry_of old.places old.edges fields))
  pub texts : texts_in new.texts
      ≡ with_kept (texts_in old.texts) (field_in fields old.places.object)
      (entry_since o.ticks (unwrap_or then 0) old.places.time
      (entry_of old.places old.edges fields))
  pub keepable : (old.places.edge ≡ None → o.edges ≡ old.edges)
      → IsKeepable old.edges o (unwrap_or then 0) told
  pub kind : old.places.kind ≡ None → IfOk told (λ s. s.0.kind ≡ Get)

-- the next record has line ends in its fields only where it may, or not
pub record ReadsLines {R : Type 0} (rem : R → Option Text) (quotes : Quotes)
    (old new : Reader R) (where_allowed : Bool) : Type 0 where
  pub fields : Fields
  pub gives : Gives (records_ahead rem old) fields (records_ahead rem new)
  pub lines : has_its_lines quotes fields ≡ where_allowed

-- why no record is read: a line end in a field, the reader's answer, or memory
abbrev pub IsUnread : {R : Type 0} → (R → Option Text) → Quotes → Reader R → Reader R
    → ImportFault → Type 0
IsUnread rem quotes old new e =
    ((n : ℕ) × (e ≡ fault.OpenQuote n) × ReadsLines rem quotes old new false)
    ⊎ (e ≡ fault.Read) ⊎ (e ≡ fault.Memory)

-- why the records of a log are refused: one has a line end in a field, where it may not, or it is the first whose row
-- is refused
abbrev pub IsRecordsFault : {R : Type 0} → Log R → Options → Option LogTime → List Fields
    → ImportFault → Type 0
IsRecordsFault log o asked records e =
    IsOpenQuote log.quotes records e
    ⊎ IsFirstRefused o (records_told log.places log.edges o asked records) e

-- all rows of a log are read, and written where they are kept
pub record HasReadCsv {R : Type 0} (rem : R → Option Text) (o : Options) (log : Log R)
    (before after : Option Text) (old new : Stream) : Type 0 where
  pub seen : List Fields
  pub all : AreAllRead (records_ahead rem log.reader) seen
  pub gone : Text
  pub gained : Appends before after gone
  pub stream : IsStreamOf log.edges o (records_rows log.places log.edges o old.epoch seen)
      (records_told log.places log.edges o old.epoch seen) gone new
  pub kinds : new.kinds ≡ old.kinds
