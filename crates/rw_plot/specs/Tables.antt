-- What is drawn of a table: the policies and numbers of its rows, or the first fault, from the list of its records.
use Rattle.std.specs.Prelude.{ℕ, ◌+◌, ◌^◌, ◌==◌, ◌&&◌, if◌then◌else◌, nat_lt, Bool, true, false, List, [], ◌∷◌, length, take, drop, slice_index, codes, Option, Some, None, Result, Ok, Err, unwrap_or}
use Rattle.csv.specs.Records.{field_at}
use Rattle.rw_numbers.specs.Words.{Count, Position, Size, Time}
use Rattle.rw_trace.specs.Trace.{is_text_at, number_in, number_of}
use Rattle.rw_trace.specs.Words.{Text, Fields}
use Rattle.rw_plot.specs.Layouts.{is_layout, layout_of_table, table_places, tells_intervals}
use Rattle.rw_plot.specs.declared.layout.Layout.{Layout}
use Rattle.rw_plot.specs.declared.layout.Layout.TheVariants as layouts
use Rattle.rw_plot.specs.declared.measure.Caches.{Caches}
use Rattle.rw_plot.specs.declared.measure.Caches.TheVariants as whose
use Rattle.rw_plot.specs.declared.measure.Drawing.{Drawing}
use Rattle.rw_plot.specs.declared.measure.FlashOf.{FlashOf}
use Rattle.rw_plot.specs.declared.measure.Measure.{Measure}
use Rattle.rw_plot.specs.declared.measure.Measure.TheVariants as measures
use Rattle.rw_plot.specs.declared.places.ConfigurationPlaces.{ConfigurationPlaces}
use Rattle.rw_plot.specs.declared.places.FigurePlaces.{FigurePlaces}
use Rattle.rw_plot.specs.declared.places.IntervalPlaces.{IntervalPlaces}
use Rattle.rw_plot.specs.declared.places.Places.{Places}
use Rattle.rw_plot.specs.declared.sample.Configuration.{Configuration}
use Rattle.rw_plot.specs.declared.sample.Figures.{Figures}
use Rattle.rw_plot.specs.declared.sample.Interval.{Interval}
use Rattle.rw_plot.specs.declared.sample.Line.{Line}
use Rattle.rw_plot.specs.declared.sample.Sample.{Sample}
use Rattle.rw_plot.specs.declared.plot_fault.PlotFault.{PlotFault}
use Rattle.rw_plot.specs.declared.plot_fault.PlotFault.TheVariants as fault

-- a value, or a fault of the table
abbrev pub OrPlotFault : Type 0 → Type 0
OrPlotFault A = Result A PlotFault

-- the most rows of a table
abbrev pub most_lines : Count
most_lines = 2 ^ 20

-- a value, or this fault
abbrev pub or_plot_fault : {A : Type 0} → PlotFault → Option A → OrPlotFault A
or_plot_fault e None = Err e
or_plot_fault e (Some x) = Ok x

infixl 10 ◌>>=◌
abbrev pub ◌>>=◌ : {A B : Type 0} → OrPlotFault A → (A → OrPlotFault B) → OrPlotFault B
(Ok x) >>= f = f x
(Err e) >>= f = Err e

-- the whole number at a column of record `row`
unfoldable pub count_of_column : Position → Position → Fields → OrPlotFault Count
count_of_column row column fields =
    or_plot_fault (fault.Number row column) (number_in (field_at fields column))

-- a ratio in millionths, from its digit and its six decimals, if it is at most 1
abbrev pub millionths_of : Option ℕ → Option ℕ → Option ℕ
millionths_of None m = None
millionths_of (Some w) None = None
millionths_of (Some w) (Some m) =
    if w == 0 then Some m else if (w == 1) && (m == 0) then Some 1000000 else None

-- the ratio that a field writes, in millionths: a digit, a point and six decimals, at most 1
unfoldable pub ratio_of : Text → Option ℕ
ratio_of f =
    if (length f == 8) && (slice_index f 1 == 46)
    then millionths_of (number_of (take 1 f)) (number_of (drop 2 f))
    else None

-- the ratio of a field that may be there
abbrev pub ratio_in : Option Text → Option ℕ
ratio_in None = None
ratio_in (Some f) = ratio_of f

-- the ratio at a column of record `row`
unfoldable pub ratio_of_column : Position → Position → Fields → OrPlotFault ℕ
ratio_of_column row column fields =
    or_plot_fault (fault.Number row column) (ratio_in (field_at fields column))

-- the size of the flash at a column of record `row`: over 0
unfoldable pub flash_of_column : Position → Position → Fields → OrPlotFault Size
flash_of_column row column fields =
    count_of_column row column fields
    >>= (λ n. if n == 0 then Err (fault.Number row column) else Ok n)

-- the whole number at a column, or 0 in a table that lacks it
abbrev pub count_if : Position → Option Position → Fields → OrPlotFault Count
count_if row None fields = Ok 0
count_if row (Some column) fields = count_of_column row column fields

-- ---- the parts of a row, column by column
-- the numbers of the configuration, besides the policy, which may be any text
unfoldable pub sizes_of : ConfigurationPlaces → Position → Fields → OrPlotFault Configuration
sizes_of places row fields = do
  sections ← count_of_column row places.sections fields
  block ← count_of_column row places.block fields
  edge_blocks ← count_of_column row places.edge_blocks fields
  origin_blocks ← count_of_column row places.origin_blocks fields
  edges ← count_if row places.edges fields
  origins ← count_if row places.origins fields
  up ← count_if row places.up fields
  down ← count_if row places.down fields
  back ← count_if row places.back fields
  Ok (record {
    sections = sections;
    block = block;
    edge_blocks = edge_blocks;
    origin_blocks = origin_blocks;
    edges = edges;
    origins = origins;
    up = up;
    down = down;
    back = back;
  })

-- a value that is there
abbrev pub some_value : {A : Type 0} → A → OrPlotFault (Option A)
some_value x = Ok (Some x)

-- the configuration, which a table of one does not tell
unfoldable pub configuration_of : Option ConfigurationPlaces → Position → Fields
    → OrPlotFault (Option Configuration)
configuration_of None row fields = Ok None
configuration_of (Some places) row fields = sizes_of places row fields >>= some_value

-- the interval from a tick to a later one, before which it ends and which stands at a column; it is not empty
abbrev pub interval_to : Position → Position → Time → Time → OrPlotFault Interval
interval_to row column first past =
    if nat_lt first past then Ok (record { from = first; to = past })
    else Err (fault.Number row column)

-- the interval at two columns: its first tick, and the one before which it ends
unfoldable pub ticks_of : IntervalPlaces → Position → Fields → OrPlotFault Interval
ticks_of places row fields = do
  first ← count_of_column row places.from fields
  past ← count_of_column row places.to fields
  interval_to row places.to first past

-- the interval, which only a table over time tells
unfoldable pub interval_of : Option IntervalPlaces → Position → Fields
    → OrPlotFault (Option Interval)
interval_of None row fields = Ok None
interval_of (Some places) row fields = ticks_of places row fields >>= some_value

-- the caches at a column, if its field is one of the three words
unfoldable pub caches_of_column : Position → Fields → Option Caches
caches_of_column column fields =
    if is_text_at column (codes "edges") fields then Some whose.Edges
    else if is_text_at column (codes "origins") fields then Some whose.Origins
    else if is_text_at column (codes "all") fields then Some whose.All
    else None

-- what a row tells of its caches
unfoldable pub figures_of : FigurePlaces → Position → Fields → OrPlotFault Figures
figures_of places row fields = do
  hit_ratio ← ratio_of_column row places.hit_ratio fields
  byte_hit_ratio ← ratio_of_column row places.byte_hit_ratio fields
  flash_bytes ← flash_of_column row places.flash_bytes fields
  written_bytes ← count_of_column row places.written_bytes fields
  backend_requests ← count_of_column row places.backend_requests fields
  Ok (record {
    hit_ratio = hit_ratio;
    byte_hit_ratio = byte_hit_ratio;
    flash_bytes = flash_bytes;
    written_bytes = written_bytes;
    backend_requests = backend_requests;
  })

-- the bytes that were asked of the backend, which a table may lack
unfoldable pub backend_bytes_of : Option Position → Position → Fields
    → OrPlotFault (Option Count)
backend_bytes_of None row fields = Ok None
backend_bytes_of (Some column) row fields = count_of_column row column fields >>= some_value

-- what is drawn of a record, or its first fault: its length, then its configuration, its interval, its caches, what it
-- tells of them, and the bytes that were asked of the backend
unfoldable pub sample_of : Places → Position → Fields → OrPlotFault Sample
sample_of places row fields =
    if length fields == places.width then (do
      configuration ← configuration_of places.configuration row fields
      interval ← interval_of places.interval row fields
      caches ← or_plot_fault (fault.Caches row) (caches_of_column places.caches fields)
      figures ← figures_of places.figures row fields
      backend_bytes ← backend_bytes_of places.backend_bytes row fields
      Ok (record {
        configuration = configuration;
        interval = interval;
        caches = caches;
        figures = figures;
        backend_bytes = backend_bytes;
      }))
    else Err (fault.RowLength row)

-- ---- the rows
-- whether two are the same caches
abbrev pub are_same_caches : Caches → Caches → Bool
are_same_caches whose.Edges whose.Edges = true
are_same_caches whose.Origins whose.Origins = true
are_same_caches whose.All whose.All = true
are_same_caches _ _ = false

-- the caches that are drawn, or none where all three are: those that are asked for; where none are, all three of a
-- table of one configuration, and of others the row of all caches together
abbrev pub drawn_caches : Layout → Option Caches → Option Caches
drawn_caches layout (Some caches) = Some caches
drawn_caches layouts.Sweep None = Some whose.All
drawn_caches layouts.OverTime None = None
drawn_caches layouts.SweepOverTime None = Some whose.All

-- whether a row of these caches is drawn
abbrev pub is_drawn : Option Caches → Caches → Bool
is_drawn None caches = true
is_drawn (Some drawn) caches = are_same_caches caches drawn

-- the policy of a record, which may be any text; none in a table of one configuration
unfoldable pub policy_of_fields : Option ConfigurationPlaces → Fields → Text
policy_of_fields None fields = []
policy_of_fields (Some places) fields = unwrap_or (field_at fields places.policy) []

-- a row that is drawn: its policy, and its numbers
pub record DrawnRow : Type 0 where
  pub policy : Text
  pub sample : Sample

abbrev pub drawn_row : Text → Sample → DrawnRow
drawn_row policy sample = record { policy = policy; sample = sample }

-- a row that is held, as one that is drawn
abbrev pub row_of_line : Line → DrawnRow
row_of_line l = drawn_row l.policy.items l.sample

-- a row, if it is drawn, and then the rows that follow it
abbrev pub drawn_before : Bool → DrawnRow → OrPlotFault (List DrawnRow)
    → OrPlotFault (List DrawnRow)
drawn_before true d (Ok ds) = Ok (d ∷ ds)
drawn_before false d (Ok ds) = Ok ds
drawn_before b d (Err e) = Err e

-- the rows that are drawn of some records, the first being row n, or the first fault; row `most` is one too many
unfoldable pub drawn_of : Places → Option Caches → Count → Position → List Fields
    → OrPlotFault (List DrawnRow)
drawn_of places drawn most n [] = Ok []
drawn_of places drawn most n (r ∷ rs) =
    if n == most then Err fault.TooManyRows
    else sample_of places n r
    >>= (λ s. drawn_before (is_drawn drawn s.caches)
    (drawn_row (policy_of_fields places.configuration r) s)
    (drawn_of places drawn most (n + 1) rs))

-- some rows, of which there is one at least
abbrev pub some_rows : List DrawnRow → OrPlotFault (List DrawnRow)
some_rows [] = Err fault.Nothing
some_rows (d ∷ ds) = Ok (d ∷ ds)

-- whether a table lacks what is to be drawn of it: the bytes that were asked of the backend, by their column's place
abbrev pub lacks_measure : Option Position → Measure → Bool
lacks_measure None measures.BackendBytes = true
lacks_measure _ _ = false

-- whether the flash is asked for on the x axis of a table whose x axis is the time
abbrev pub lacks_flash_axis : Layout → Option FlashOf → Bool
lacks_flash_axis layout None = false
lacks_flash_axis layout (Some x) = tells_intervals layout

-- what is drawn of the rows below a header, or the first fault
unfoldable pub rows_drawn : Drawing → List Fields → Places → OrPlotFault (List DrawnRow)
rows_drawn drawing rs places =
    if lacks_measure places.backend_bytes drawing.measure then Err fault.NoBackendBytes
    else if lacks_flash_axis places.layout drawing.x then Err fault.NoFlashAxis
    else drawn_of places (drawn_caches places.layout drawing.caches) most_lines 0 rs
    >>= some_rows

-- what is drawn of a table, or its first fault
unfoldable pub table_of : Drawing → List Fields → OrPlotFault (List DrawnRow)
table_of drawing [] = Err fault.Header
table_of drawing (h ∷ rs) =
    or_plot_fault fault.Header (table_places h) >>= rows_drawn drawing rs

-- whether the first of some records is the header of a table
abbrev pub has_table_header : List Fields → Bool
has_table_header recs = is_layout (layout_of_table recs)
