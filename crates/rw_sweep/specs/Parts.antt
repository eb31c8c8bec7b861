-- The parts of a sweep: some of its configurations, each line behind the place of its own.
use Rattle.std.specs.Prelude.{◌≡◌, ◌%◌, ◌==◌, Bool, List, [], ◌++◌, codes, decimal, Ok, Err, Option, None, Some}
use Rattle.std.specs.List.{AllZip, Contains, enumerate_from, filter, flat_map}
use Rattle.std.specs.Io.KnownBytes.{Appends}
use Rattle.rw_vt.specs.Words.{Count, Position}
use Rattle.rw_vt.specs.System.{Meets}
use Rattle.rw_vt.specs.Limits.{end_of_time}
use Rattle.rw_trace.specs.declared.Row.{Row}
use Rattle.rw_trace.specs.Limits.{most_rows}
use Rattle.rw_trace.specs.Trace.{trace_of}
use Rattle.rw_trace.specs.Unread.{records_of}
use Rattle.rw_trace.specs.Words.{Text}
use Rattle.rw_report.specs.Sink.{AppendsBeginning}
use Rattle.rw_report.specs.declared.sim_fault.SimFault.{SimFault}
use Rattle.rw_report.specs.declared.sim_fault.SimFault.TheVariants as sim
use Rattle.rw_photo.specs.declared.config.Config.{Config}
use Rattle.rw_photo.specs.Cache.{is_exhausted}
use Rattle.rw_photo.specs.Simulation.{simulation}
use Rattle.rw_sweep.specs.declared.axes.Axes.{Axes}
use Rattle.rw_sweep.specs.declared.choice.Choice.{Choice}
use Rattle.rw_sweep.specs.Grids.{IsConfigOf, combinations, least_edges}
use Rattle.rw_sweep.specs.Sweep.{AreLinesOfChoice}
use Rattle.rw_sweep.specs.Table.{header_line}

-- whether a place is in part `index` of so many: the places are dealt out in turn
abbrev pub is_in_part : Position → Count → Position → Bool
is_in_part index count place = place % count == index

-- each of some values that is in the part, beside its place in the list
abbrev pub dealt : {A : Type 0} → Position → Count → List A → List (Position × A)
dealt index count xs = filter (λ at. is_in_part index count at.0) (enumerate_from 0 xs)

-- a line behind the place of its configuration
abbrev pub placed_line : Position → Text → Text
placed_line place line = decimal place ++ codes "," ++ line

-- what stands before a line: the place of its configuration, where that is told
abbrev pub before_line : Option Position → Text
before_line None = []
before_line (Some place) = decimal place ++ codes ","

-- some lines as a text, each behind its place, where that is told
abbrev pub text_of_lines : Option Position → List Text → Text
text_of_lines place lines = flat_map (λ line. before_line place ++ line) lines

-- the names of a part's columns
abbrev pub part_header : Text
part_header = codes "place," ++ header_line

-- the lines of a configuration, and its place
pub record LinesAt : Type 0 where
  pub place : Position
  pub lines : List Text

-- the lines of the choice at this place
pub record AreLinesOfPlaced (a : Axes) (rows : List Row) (at : Position × Choice)
    (ls : LinesAt) : Type 0 where
  pub place_is : ls.place ≡ at.0
  pub tell : AreLinesOfChoice a rows at.1 ls.lines

-- the text is part `index` of so many of the table of the trace in these bytes over a grid: the trace is accepted with
-- these rows, and behind the header stand the lines of each combination that is in the part, in their order, each line
-- behind its place
pub record IsPartSweepOf (a : Axes) (index : Position) (count : Count)
    (bytes text : Text) : Type 0 where
  pub rows : List Row
  pub lines : List LinesAt
  pub accepted : trace_of (least_edges a) most_rows (records_of bytes) ≡ Ok rows
  pub each : AllZip (AreLinesOfPlaced a rows) (dealt index count (combinations a)) lines
  pub told : text ≡ part_header ++ flat_map (λ ls. flat_map (placed_line ls.place) ls.lines) lines

-- a finished sweep of a part has written, between what the writer held before and what it holds after, its table
abbrev pub HasSweptPart : Axes → Position → Count → Text → Option Text → Option Text → Type 0
HasSweptPart a index count bytes before after =
    (text : Text) × IsPartSweepOf a index count bytes text × Appends before after text

-- the text is a beginning of that part, which ends where the lines of a combination end: the combinations of the part
-- are some first ones and the rest, and behind the header stand the lines of each of the first ones, in their order,
-- each line behind its place
pub record IsPartSweepOfFirst (a : Axes) (index : Position) (count : Count)
    (bytes text : Text) : Type 0 where
  pub rows : List Row
  pub first : List (Position × Choice)
  pub rest : List (Position × Choice)
  pub lines : List LinesAt
  pub accepted : trace_of (least_edges a) most_rows (records_of bytes) ≡ Ok rows
  pub parted : dealt index count (combinations a) ≡ first ++ rest
  pub each : AllZip (AreLinesOfPlaced a rows) first lines
  pub told : text ≡ part_header ++ flat_map (λ ls. flat_map (placed_line ls.place) ls.lines) lines

-- a sweep of a part has written the header and the lines of its first combinations, whole, and nothing more
abbrev pub HasSweptPartFirst : Axes → Position → Count → Text → Option Text → Option Text → Type 0
HasSweptPartFirst a index count bytes before after =
    (text : Text) × IsPartSweepOfFirst a index count bytes text × Appends before after text

-- what went out of a part that the writer cut off is a beginning of the header and the lines of its first combinations
abbrev pub HasSweptPartBeginning : Axes → Position → Count → Text → Option Text → Option Text
    → Type 0
HasSweptPartBeginning a index count bytes before after =
    (text : Text) × IsPartSweepOfFirst a index count bytes text × AppendsBeginning before after text

-- the trace in these bytes is accepted, and executing it in order of time under one of the combinations of the part
-- comes to a cache that can take no further event
pub record IsExhaustingPart (a : Axes) (index : Position) (count : Count)
    (bytes : Text) : Type 0 where
  pub rows : List Row
  pub at : Position × Choice
  pub config : Config
  pub accepted : trace_of (least_edges a) most_rows (records_of bytes) ≡ Ok rows
  pub among : Contains (dealt index count (combinations a)) at
  pub config_is : IsConfigOf a at.1 config
  pub met : Meets (simulation config rows) end_of_time is_exhausted

-- why a part has no table, or could not write it; want of memory may come anywhere
abbrev pub IsPartSweepFault : Axes → Position → Count → Text → SimFault → Type 0
IsPartSweepFault a index count bytes (sim.Trace f) =
    trace_of (least_edges a) most_rows (records_of bytes) ≡ Err f
IsPartSweepFault a index count bytes sim.Exhausted = IsExhaustingPart a index count bytes
IsPartSweepFault a index count bytes sim.Output = Unit {0}
IsPartSweepFault a index count bytes sim.Memory = Unit {0}
IsPartSweepFault a index count bytes _ = ⊥
