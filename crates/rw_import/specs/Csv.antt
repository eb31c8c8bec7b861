-- What the records of a log of fields say, and where its columns stand.
use Rattle.std.specs.Prelude.{◌≡◌, ◌↔◌, ◌⊎◌, ◌<◌, ◌+◌, ◌*◌, ◌%◌, ◌==◌, ◌&&◌, ◌||◌, if◌then◌else◌, ℕ, List, [], ◌∷◌, ◌++◌, Bool, true, false, not, Result, Ok, Err, Option, Some, None, codes, drop, fold, length, map, min, nat_eq, nat_le, nat_lt, option_map, replicate, slice_index, slice_index_or, take, unwrap_or}
use Rattle.std.specs.Char.{is_ascii_digit}
use Rattle.std.specs.Cmp.Lexicographic.{pointwise}
use Rattle.std.specs.List.{list_all, list_any, position, position_or_len}
use Rattle.std.specs.Option.{ok_or}
use Rattle.std.specs.Str.{str_eq_ignore_ascii_case}
use Rattle.csv.specs.Reading.{default_config, records, strip_bom}
use Rattle.csv.specs.Records.{field_at}
use Rattle.csv.specs.declared.parser.Config.{Config}
use Rattle.rw_numbers.specs.Words.{Count, Object, Position, Size, Time}
use Rattle.rw_trace.specs.Limits.{greatest_size}
use Rattle.rw_trace.specs.Trace.{number_of}
use Rattle.rw_trace.specs.Words.{Fields, Text}
use Rattle.rw_trace.specs.declared.Kind.{Kind}
use Rattle.rw_trace.specs.declared.Kind.TheVariants.{Get, Purge}
use Rattle.rw_trace.specs.declared.Row.{Row}
use Rattle.rw_import.specs.declared.entry.Entry.{Entry}
use Rattle.rw_import.specs.declared.fault.Flaw.{Flaw}
use Rattle.rw_import.specs.declared.fault.Flaw.TheVariants as flaw
use Rattle.rw_import.specs.declared.fault.ImportFault.{ImportFault}
use Rattle.rw_import.specs.declared.fault.ImportFault.TheVariants as fault
use Rattle.rw_import.specs.declared.fault.Part.{Part}
use Rattle.rw_import.specs.declared.fault.Part.TheVariants as part
use Rattle.rw_import.specs.declared.layout.Layout.{Layout}
use Rattle.rw_import.specs.declared.layout.Column.{Column}
use Rattle.rw_import.specs.declared.layout.Column.TheVariants.{At, Named}
use Rattle.rw_import.specs.declared.layout.Places.{Places}
use Rattle.rw_import.specs.declared.layout.Quotes.{Quotes}
use Rattle.rw_import.specs.declared.layout.Quotes.TheVariants.{OneLine, Plain}
use Rattle.rw_import.specs.declared.options.Options.{Options}
use Rattle.rw_import.specs.Limits.{most_log_edges}
use Rattle.rw_import.specs.Spread.{spread_if}
use Rattle.rw_import.specs.Log.{Edge, IsRowsFault, LogTime, Saying, billion, first_time, in_time, kept_in, rows_for, told_apart}

infixl 10 ◌>>=◌
abbrev pub ◌>>=◌ : {A B E : Type 0} → Result A E → (A → Result B E) → Result B E
(Ok x) >>= f = f x
(Err e) >>= f = Err e

-- whether two texts are the same
abbrev pub is_same_text : Text → Text → Bool
is_same_text a b = pointwise nat_eq a b

-- ---- the fields of a record

-- the text of the field at a place, of which nothing is there past the last
abbrev pub field_in : Fields → Position → Text
field_in fields n = unwrap_or (field_at fields n) []

-- whether a record has a place
abbrev pub has_place : Fields → Position → Bool
has_place fields n = nat_lt n (length fields)

-- the same of a place that need not be asked for
abbrev pub has_place_if : Fields → Option Position → Bool
has_place_if fields None = true
has_place_if fields (Some n) = has_place fields n

-- whether a record has all the places that are asked for
abbrev pub has_places : Fields → Places → Bool
has_places fields p =
    has_place fields p.time && has_place_if fields p.edge && has_place fields p.object
    && has_place fields p.size && has_place_if fields p.kind

-- the billionths that the digits behind a point write: nine of them count, and where there are fewer the others are
-- zeros
unfoldable pub fraction_of : Text → Option LogTime
fraction_of digits =
    if (length digits == 0) || not (list_all is_ascii_digit digits) then None
    else number_of (take 9 (digits ++ replicate 9 48))

-- so many units and billionths, in billionths
abbrev pub time_with : Option ℕ → Option LogTime → Option LogTime
time_with None f = None
time_with (Some n) None = None
time_with (Some n) (Some f) = Some (n * billion + f)

-- the time that a text writes, in billionths, where its point stands there, if it has one
abbrev pub time_at : Text → Option Position → Option LogTime
time_at text None = time_with (number_of text) (Some 0)
time_at text (Some n) = time_with (number_of (take n text)) (fraction_of (drop (n + 1) text))

-- the time that a text writes, in billionths: a number, and perhaps a point and digits behind it
unfoldable pub time_of : Text → Option LogTime
time_of text = time_at text (position (λ b. b == 46) text)

-- whether a time is a whole number of units
abbrev pub is_whole : LogTime → Bool
is_whole time = time % billion == 0

-- a time, if there is one, and if it is whole, where it has to be
abbrev pub whole_time : Bool → Option LogTime → Option LogTime
whole_time wanted None = None
whole_time wanted (Some t) = if wanted && not (is_whole t) then None else Some t

-- a number below another, if there is one
abbrev pub below : ℕ → Option ℕ → Option ℕ
below most None = None
below most (Some n) = if nat_lt n most then Some n else None

-- the edge that a record names, one of so many, where it has a column of edges
abbrev pub edge_in : Count → Fields → Option Position → Result (Option Edge) Flaw
edge_in edges fields None = Ok None
edge_in edges fields (Some n) =
    ok_or (option_map (λ e. Some e) (below edges (number_of (field_in fields n))))
    (flaw.Column n part.Edge)

-- whether there is a number, and it is 0
abbrev pub is_zero : Option Size → Bool
is_zero None = false
is_zero (Some n) = n == 0

-- whether a field names no size: it is empty, `-` or 0
unfoldable pub is_missing : Text → Bool
is_missing text =
    (length text == 0) || is_same_text text (codes "-") || is_zero (number_of text)

-- a size, if it is not 0; one over the greatest is taken as the greatest, and is clamped
abbrev pub clamped : Option Size → Option (Size × Bool)
clamped None = None
clamped (Some n) =
    if nat_le 1 n then Some (min n greatest_size, nat_lt greatest_size n) else None

-- the size that a field names, or else the one that stands for a missing one, if there is one
unfoldable pub size_in : Option Size → Text → Option (Size × Bool)
size_in missing text = clamped (if is_missing text then missing else number_of text)

-- the kind that a text names, in capitals or not
abbrev pub kind_named : Text → Option Kind
kind_named text =
    if str_eq_ignore_ascii_case text (codes "get") then Some Get
    else if str_eq_ignore_ascii_case text (codes "purge") then Some Purge
    else None

-- the kind of a record: a get where there is no column of kinds
abbrev pub kind_in : Fields → Option Position → Result Kind Flaw
kind_in fields None = Ok Get
kind_in fields (Some n) = ok_or (kind_named (field_in fields n)) (flaw.Column n part.Kind)

-- a text, if it is not empty
abbrev pub some_text : Text → Option Text
some_text [] = None
some_text (b ∷ bs) = Some (b ∷ bs)

-- what a record says but its object, or what is first wrong with it: a place that it has not, and then its columns in
-- the order of time, edge, object, size and kind
unfoldable pub entry_of : Places → Count → Fields → Result Entry Flaw
entry_of p edges fields =
    if has_places fields p then (do
      time ← ok_or (whole_time p.whole_times (time_of (field_in fields p.time)))
          (flaw.Column p.time part.Time)
      edge ← edge_in edges fields p.edge
      _ ← ok_or (some_text (field_in fields p.object)) (flaw.Column p.object part.Object)
      size ← ok_or (size_in p.missing_size (field_in fields p.size)) (flaw.Column p.size part.Size)
      kind ← kind_in fields p.kind
      Ok (record { time = time; edge = edge; size = size.0; clamped = size.1; kind = kind }))
    else Err flaw.Length

-- an entry beside its object
abbrev pub beside : {O : Type 0} → O → Result Entry Flaw → Saying O
beside object (Ok entry) = Ok (entry, object)
beside object (Err flaw) = Err flaw

-- what a record says, with the text of its object
abbrev pub record_said : Places → Count → Fields → Saying Text
record_said p edges fields = beside (field_in fields p.object) (entry_of p edges fields)

-- what becomes of a record, where the least time is known
abbrev pub record_told : Places → Count → Options → LogTime → Fields → Saying Text
record_told p edges o least fields = in_time o least p.time (record_said p edges fields)

-- ---- the columns of a log

-- whether a column is given by its name
abbrev pub is_named : Column → Bool
is_named (Named name) = true
is_named (At n) = false

abbrev pub is_named_if : Option Column → Bool
is_named_if None = false
is_named_if (Some column) = is_named column

-- whether some column is given by its name: then the log's first record is its header
abbrev pub has_header : Layout → Bool
has_header l =
    is_named l.time || is_named_if l.edge || is_named l.object || is_named l.size
    || is_named_if l.kind

-- where a column stands: at its number, or where its name first stands in the header
abbrev pub place_in : Fields → Part → Column → Result Position ImportFault
place_in header p (At n) = Ok n
place_in header p (Named name) =
    ok_or (position (λ field. is_same_text field name.items) header) (fault.NoColumn p)

-- the same of a column that need not be there
abbrev pub place_if : Fields → Part → Option Column → Result (Option Position) ImportFault
place_if header p None = Ok None
place_if header p (Some column) = place_in header p column >>= (λ n. Ok (Some n))

-- where all columns stand, or the first that the header lacks
unfoldable pub places_in : Fields → Layout → Result Places ImportFault
places_in header l = do
  time ← place_in header part.Time l.time
  edge ← place_if header part.Edge l.edge
  object ← place_in header part.Object l.object
  size ← place_in header part.Size l.size
  kind ← place_if header part.Kind l.kind
  Ok (record {
    time = time;
    object = object;
    size = size;
    missing_size = l.missing_size;
    whole_times = l.whole_times;
    edge = edge;
    kind = kind;
  })

-- the same, under the first of some records
abbrev pub places_under : Layout → List Fields → Result Places ImportFault
places_under l [] = Err fault.Header
places_under l (header ∷ rows) = places_in header l

-- where the columns of a log of these records stand, or why they are not found
unfoldable pub columns_found : Layout → List Fields → Result Places ImportFault
columns_found l records = if has_header l then places_under l records else places_in [] l

-- the records that are rows: all but the header
unfoldable pub rows_under : Layout → List Fields → List Fields
rows_under l records = if has_header l then drop 1 records else records

-- ---- a log

-- whether fields may be quoted
abbrev pub has_quotes : Quotes → Bool
has_quotes Plain = false
has_quotes q = true

-- how the `csv` crate's reader reads a log: with the log's byte between two fields, and quotes or none
abbrev pub log_config : Layout → Config
log_config l = record default_config { delimiter = l.delimiter; quoting = has_quotes l.quotes }

-- the records of a log: those that the `csv` crate's reader gives
abbrev pub log_records : Layout → Text → List Fields
log_records l bytes = records (log_config l) (strip_bom bytes)

-- whether a byte ends a line
abbrev pub is_line_end : ℕ → Bool
is_line_end b = (b == 10) || (b == 13)

-- whether no field of a record has a line end inside it
abbrev pub is_on_one_line : Fields → Bool
is_on_one_line fields = not (list_any (list_any is_line_end) fields)

-- whether a record has line ends in its fields only where it may
abbrev pub has_its_lines : Quotes → Fields → Bool
has_its_lines OneLine fields = is_on_one_line fields
has_its_lines q fields = true

-- the same of all records
abbrev pub have_their_lines : Quotes → List Fields → Bool
have_their_lines q records = list_all (has_its_lines q) records

-- a field of these records has a line end inside it, where it may not
abbrev pub IsOpenQuote : Quotes → List Fields → ImportFault → Type 0
IsOpenQuote q records e = (n : ℕ) × (e ≡ fault.OpenQuote n) × (have_their_lines q records ≡ false)

-- how many edges there are, so many if none are named: the most where there is a column of edges
abbrev pub edges_named : Option Column → Count → Count
edges_named None edges = edges
edges_named (Some column) edges = most_log_edges

-- how many edges a log's trace is for
abbrev pub edges_of : Layout → Options → Count
edges_of l o = edges_named l.edge o.edges

-- what its rows say, where its columns stand there
abbrev pub said_at : Layout → Options → Text → Result Places ImportFault → List (Saying Text)
said_at l o bytes (Ok p) = map (record_said p (edges_of l o)) (rows_under l (log_records l bytes))
said_at l o bytes (Err e) = []

-- what its rows say; none where its columns are not found
abbrev pub csv_said : Layout → Options → Text → List (Saying Text)
csv_said l o bytes = said_at l o bytes (columns_found l (log_records l bytes))

-- the column of times
abbrev pub time_column : Result Places ImportFault → Position
time_column (Ok p) = p.time
time_column (Err e) = 0

-- what becomes of each row
abbrev pub csv_told : Layout → Options → Text → List (Saying Text)
csv_told l o bytes =
    told_apart o (time_column (columns_found l (log_records l bytes))) (csv_said l o bytes)

-- ---- the numbers of objects

-- the different texts so far, and one more
abbrev pub with_text : List Text → Text → List Text
with_text texts t = if list_any (is_same_text t) texts then texts else texts ++ t ∷ []

-- the different ones of some texts, in the order in which they first come
abbrev pub different : List Text → List Text
different texts = fold with_text [] texts

-- the number of a text: how many different ones come before it first does
abbrev pub number_among : List Text → Text → Object
number_among texts t = position_or_len (is_same_text t) (different texts)

-- the objects of the rows that are kept
abbrev pub objects_in : {O : Type 0} → List (Saying O) → List O
objects_in told = map (λ s. s.1) (kept_in told)

-- the trace's rows of a log before any is spread
abbrev pub csv_rows_unspread : Layout → Options → Text → List Row
csv_rows_unspread l o bytes =
    rows_for o (first_time (csv_said l o bytes)) (number_among (objects_in (csv_told l o bytes))) 0
    (kept_in (csv_told l o bytes))

-- the trace's rows of a log
abbrev pub csv_rows : Layout → Options → Text → List Row
csv_rows l o bytes = spread_if o (csv_rows_unspread l o bytes)

-- two rows have one number exactly where their objects are the same text
abbrev pub HaveOneNumberEach : List Text → List Object → Type 0
HaveOneNumberEach texts numbers =
    (i j : ℕ) → i < length texts → j < length texts
    → (slice_index numbers i ≡ slice_index numbers j)
    ↔ (slice_index_or texts i [] ≡ slice_index_or texts j [])

-- why a log is refused that has line ends only between records: its columns are not found, or for its rows
abbrev pub IsTableFault : Options → List (Saying Text) → Result Places ImportFault → ImportFault
    → Type 0
IsTableFault o told (Err f) e = e ≡ f
IsTableFault o told (Ok p) e = IsRowsFault o told e

-- why a log is refused
abbrev pub IsCsvFault : Layout → Options → Text → ImportFault → Type 0
IsCsvFault l o bytes e =
    IsOpenQuote l.quotes (log_records l bytes) e
    ⊎ IsTableFault o (csv_told l o bytes) (columns_found l (log_records l bytes)) e
