-- Which of the three tables one is, a sweep's, one over time, or a sweep's over time, and where its columns stand: its
-- header says both, by the names of the columns.
use Rattle.std.specs.Prelude.{nat_eq, Bool, true, false, List, [], ◌∷◌, length, codes, Option, Some, None}
use Rattle.std.specs.Cmp.Lexicographic.{pointwise}
use Rattle.std.specs.List.{position}
use Rattle.rw_numbers.specs.Words.{Position}
use Rattle.rw_trace.specs.Words.{Text, Fields}
use Rattle.rw_plot.specs.declared.layout.Layout.{Layout}
use Rattle.rw_plot.specs.declared.layout.Layout.TheVariants as layouts
use Rattle.rw_plot.specs.declared.places.ConfigurationPlaces.{ConfigurationPlaces}
use Rattle.rw_plot.specs.declared.places.FigurePlaces.{FigurePlaces}
use Rattle.rw_plot.specs.declared.places.IntervalPlaces.{IntervalPlaces}
use Rattle.rw_plot.specs.declared.places.Places.{Places}

-- whether the rows of a table are those of intervals
abbrev pub tells_intervals : Layout → Bool
tells_intervals layouts.Sweep = false
tells_intervals layouts.OverTime = true
tells_intervals layouts.SweepOverTime = true

-- ---- the places of columns
infixl 10 ◌>>=◌
abbrev pub ◌>>=◌ : {A B : Type 0} → Option A → (A → Option B) → Option B
None >>= f = None
(Some x) >>= f = f x

-- the place of the first column of this name
unfoldable pub column_named : Text → Fields → Option Position
column_named name header = position (λ field. pointwise nat_eq field name) header

-- the places of the columns of a configuration; a table of before lacks the last five
unfoldable pub configuration_places : Fields → Option ConfigurationPlaces
configuration_places header = do
  policy ← column_named (codes "policy") header
  sections ← column_named (codes "sections") header
  block ← column_named (codes "block") header
  edge_blocks ← column_named (codes "edge_blocks") header
  origin_blocks ← column_named (codes "origin_blocks") header
  Some (record {
    policy = policy;
    sections = sections;
    block = block;
    edge_blocks = edge_blocks;
    origin_blocks = origin_blocks;
    edges = column_named (codes "edges") header;
    origins = column_named (codes "origins") header;
    up = column_named (codes "up") header;
    down = column_named (codes "down") header;
    back = column_named (codes "back") header;
  })

-- the places of the columns of an interval
unfoldable pub interval_places : Fields → Option IntervalPlaces
interval_places header = do
  from ← column_named (codes "from") header
  to ← column_named (codes "to") header
  Some (record { from = from; to = to })

-- the places of the columns of the figures
unfoldable pub figure_places : Fields → Option FigurePlaces
figure_places header = do
  hit_ratio ← column_named (codes "hit_ratio") header
  byte_hit_ratio ← column_named (codes "byte_hit_ratio") header
  flash_bytes ← column_named (codes "flash_bytes") header
  written_bytes ← column_named (codes "written_bytes") header
  backend_requests ← column_named (codes "backend_requests") header
  Some (record {
    hit_ratio = hit_ratio;
    byte_hit_ratio = byte_hit_ratio;
    flash_bytes = flash_bytes;
    written_bytes = written_bytes;
    backend_requests = backend_requests;
  })

-- the table with a column `policy` or none, and with these columns of a configuration and of an interval: one with a
-- policy has the other columns of a configuration too, and one without is over time
abbrev pub layout_with : Option Position → Option ConfigurationPlaces → Option IntervalPlaces
    → Option Layout
layout_with (Some p) (Some c) None = Some layouts.Sweep
layout_with (Some p) (Some c) (Some i) = Some layouts.SweepOverTime
layout_with (Some p) None i = None
layout_with None c (Some i) = Some layouts.OverTime
layout_with None c None = None

-- which table a header is of, if it is one's
unfoldable pub layout_of : Fields → Option Layout
layout_of header =
    layout_with (column_named (codes "policy") header) (configuration_places header)
    (interval_places header)

-- the places of all columns that are drawn, and how many columns there are, if the header is one of a table
unfoldable pub table_places : Fields → Option Places
table_places header = do
  layout ← layout_of header
  caches ← column_named (codes "caches") header
  figures ← figure_places header
  Some (record {
    layout = layout;
    width = length header;
    configuration = configuration_places header;
    interval = interval_places header;
    caches = caches;
    figures = figures;
    backend_bytes = column_named (codes "backend_bytes") header;
  })

-- the table of these places, if there is one
abbrev pub layout_at : Option Places → Option Layout
layout_at None = None
layout_at (Some places) = Some places.layout

-- the table that some records are, by the first of them
abbrev pub layout_of_table : List Fields → Option Layout
layout_of_table [] = None
layout_of_table (h ∷ rs) = layout_at (table_places h)

-- whether there is a table
abbrev pub is_layout : Option Layout → Bool
is_layout None = false
is_layout (Some layout) = true
