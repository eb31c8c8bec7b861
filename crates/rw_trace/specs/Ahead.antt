-- What a reader of records has still to give, while lines are plain and from the first other line on, where the bytes
-- that it reads are known.
use Rattle.std.specs.Prelude.{◌≡◌, List, Option, Some, None, option_map, IfSome, ⊤}
use Rattle.std.specs.Io.Buffered.{reader_remaining}
use Rattle.std.specs.Io.BufRead.{drop_through, take_through}
use Rattle.std.specs.Io.KnownBytes.{prepend_known}
use Rattle.std.specs.Io.Chain.{chain_remaining}
use Rattle.std.specs.Io.Cursor.{cursor_remaining}
use Rattle.csv.specs.Reading.{default_config}
use Rattle.csv.specs.declared.parser.State.TheVariants as st
use Rattle.rw_numbers.specs.Words.{Count, Position}
use Rattle.rw_trace.specs.Words.{Text, Fields}
use Rattle.rw_trace.specs.Laws.{IsWrong, WritesRow}
use Rattle.rw_trace.specs.Pieces.{Gives, GivesNone, MayRead, records_ahead}
use Rattle.rw_trace.specs.Trace.{version_of}
use Rattle.rw_trace.specs.Unread.{LacksHeader, records_left, records_of}
use Rattle.rw_trace.specs.declared.Row.{Row}
use Rattle.rw_trace.specs.declared.TraceFault.TheVariants as fault
use Rattle.rw_trace.specs.declared.pieces.RowsFault.{RowsFault}
use Rattle.rw_trace.specs.declared.pieces.RowsFault.TheVariants as refused
use Rattle.rw_trace.specs.declared.Version.{Version}
use Rattle.rw_trace.specs.declared.record_reader.Found.{Found}
use Rattle.rw_trace.specs.declared.record_reader.Found.TheVariants as found
use Rattle.rw_trace.specs.declared.record_reader.Source.{Source}
use Rattle.rw_trace.specs.declared.record_reader.Source.TheVariants as source

-- the records of the bytes that are left, where they are known
abbrev pub lines_ahead : Option Text → Option (List Fields)
lines_ahead known = option_map (λ xs. records_left default_config st.StartRecord (Some xs)) known

-- the records that a source has still to give
abbrev pub still_ahead : {R : Type 0} → (R → Option Text) → Source R → Option (List Fields)
still_ahead rem (source.Lines r) = lines_ahead (reader_remaining rem r)
still_ahead rem (source.Records r) =
    records_ahead (chain_remaining (cursor_remaining (λ v. Some v.items)) (reader_remaining rem)) r
still_ahead rem source.Nothing = None

-- each read of records gives one as it stands, unless a read has failed
abbrev pub MayReadOn : {R : Type 0} → Source R → Type 0
MayReadOn (source.Lines r) = ⊤
MayReadOn (source.Records r) = MayRead r
MayReadOn source.Nothing = ⊤

-- a source gives no record: it has none left, or it does not read records
abbrev pub HasNoRecord : {R : Type 0} → (R → Option Text) → Source R → Type 0
HasNoRecord rem (source.Lines r) = ⊤
HasNoRecord rem (source.Records r) = GivesNone (still_ahead rem (source.Records r))
HasNoRecord rem source.Nothing = ⊤

-- what was found comes first: a record that writes this row, or the one that stands in these fields, or nothing
abbrev pub IsFound :
    Version → Count → Option (List Fields) → Found → Fields → Option (List Fields) → Type 0
IsFound version edges before (found.Row row) fields after =
    (line : Fields) × Gives before line after × WritesRow version edges line row
IsFound version edges before found.Record fields after = Gives before fields after
IsFound version edges before found.End fields after = GivesNone before

-- the row that was found, and what is wrong with it
abbrev pub IsRowFound : Version → Count → Found → Fields → Row → Type 0
IsRowFound version edges (found.Row r) fields row = row ≡ r
IsRowFound version edges found.Record fields row = WritesRow version edges fields row
IsRowFound version edges found.End fields row = ⊤

abbrev pub IsFaultFound : Version → Count → Position → Found → Fields → RowsFault → Type 0
IsFaultFound version edges n found.Record fields (refused.Trace f) =
    IsWrong version edges n fields f
IsFaultFound version edges n found.Record fields refused.Read = ⊥
IsFaultFound version edges n (found.Row r) fields e = ⊥
IsFaultFound version edges n found.End fields e = ⊤

-- a line was read, up to and with its line feed (10), or up to the end
abbrev pub HasReadLine : Option Text → Text → Option Text → Type 0
HasReadLine before line after =
    IfSome before (λ xs. (line ≡ take_through 10 xs) × (after ≡ Some (drop_through 10 xs)))

-- a source of lines, with a line in front of it, becomes a source of records
abbrev pub IsHandedOver : {R : Type 0} → (R → Option Text) → Source R → Text → Source R → Type 0
IsHandedOver rem (source.Lines r) line (source.Records after) =
    still_ahead rem (source.Records after)
    ≡ lines_ahead (prepend_known line (reader_remaining rem r))
IsHandedOver rem (source.Lines r) line after = ⊥
IsHandedOver rem before line after = ⊤

-- the header was read, of this version, and then what is still to come
abbrev pub IsOpened : Option Text → Version → Option (List Fields) → Type 0
IsOpened None version after = ⊤
IsOpened (Some xs) version after =
    (head : Fields) × Gives (Some (records_of xs)) head after × (version_of head ≡ Some version)

-- there is no header, or the reader or memory was refused
abbrev pub IsUnopened : Option Text → RowsFault → Type 0
IsUnopened known refused.Read = ⊤
IsUnopened known (refused.Trace fault.Memory) = ⊤
IsUnopened known (refused.Trace fault.Header) = IfSome known (λ xs. LacksHeader (records_of xs))
IsUnopened known (refused.Trace f) = ⊥
