-- From the bytes of a trace and a grid to the bytes of the table.
use Rattle.std.specs.Prelude.{◌≡◌, List, ◌++◌, map, Ok, Err, Option, None}
use Rattle.std.specs.List.{AllZip, Contains, concat, flat_map}
use Rattle.std.specs.Io.KnownBytes.{Appends}
use Rattle.rw_vt.specs.Words.{Count}
use Rattle.rw_vt.specs.declared.event.Event.{Event}
use Rattle.rw_vt.specs.System.{IsOutcome, Meets}
use Rattle.rw_vt.specs.Limits.{end_of_time}
use Rattle.rw_trace.specs.declared.Row.{Row}
use Rattle.rw_trace.specs.Limits.{most_rows}
use Rattle.rw_trace.specs.Trace.{trace_of}
use Rattle.rw_trace.specs.Unread.{records_of}
use Rattle.rw_trace.specs.Words.{Text}
use Rattle.rw_report.specs.Sink.{AppendsBeginning}
use Rattle.rw_report.specs.declared.sim_fault.SimFault.{SimFault}
use Rattle.rw_report.specs.declared.sim_fault.SimFault.TheVariants as sim
use Rattle.rw_photo.specs.declared.body.Body.{Body}
use Rattle.rw_photo.specs.declared.config.Config.{Config}
use Rattle.rw_photo.specs.Cache.{Cache, is_exhausted}
use Rattle.rw_photo.specs.Simulation.{simulation}
use Rattle.rw_sweep.specs.declared.choice.Choice.{Choice}
use Rattle.rw_sweep.specs.declared.axes.Axes.{Axes}
use Rattle.rw_sweep.specs.Grids.{IsConfigOf, combinations, least_edges}
use Rattle.rw_sweep.specs.Facts.{facts_of}
use Rattle.rw_sweep.specs.Table.{conditions, header_line, sweep_lines}

-- the lines tell of a configuration at work on these rows: executing their requests, and all that follows from them, in
-- order of time leaves the caches in these states; and the three lines tell what they have counted, of so many ticks a
-- second, where that is known, and the whole trace
pub record AreLinesOf (c : Config) (x : Choice) (ticks : Option Count) (rows : List Row)
    (lines : List Text) : Type 0 where
  pub journals : List (List (Event Body))
  pub states : List Cache
  pub outcome : IsOutcome (simulation c rows) end_of_time journals states
  pub told : lines ≡ sweep_lines c x (conditions ticks None (facts_of rows))
      (map (λ s. s.counters) states)

-- the same, of the configuration of a choice
pub record AreLinesOfChoice (a : Axes) (rows : List Row) (x : Choice)
    (lines : List Text) : Type 0 where
  pub config : Config
  pub config_is : IsConfigOf a x config
  pub tells : AreLinesOf config x a.ticks_a_second rows lines

-- the text is the table of the trace in these bytes over a grid: the trace is accepted with these rows, and behind the
-- header stand the lines of each combination, in their order
pub record IsSweepOf (a : Axes) (bytes text : Text) : Type 0 where
  pub rows : List Row
  pub lines : List (List Text)
  pub accepted : trace_of (least_edges a) most_rows (records_of bytes) ≡ Ok rows
  pub each : AllZip (AreLinesOfChoice a rows) (combinations a) lines
  pub told : text ≡ header_line ++ flat_map concat lines

-- a finished sweep has written, between what the writer held before and what it holds after, its table
abbrev pub HasSwept : Axes → Text → Option Text → Option Text → Type 0
HasSwept a bytes before after = (text : Text) × IsSweepOf a bytes text × Appends before after text

-- the text is a beginning of that table, which ends where the lines of a combination end: the combinations are some
-- first ones and the rest, and behind the header stand the lines of each of the first ones, in their order
pub record IsSweepOfFirst (a : Axes) (bytes text : Text) : Type 0 where
  pub rows : List Row
  pub first : List Choice
  pub rest : List Choice
  pub lines : List (List Text)
  pub accepted : trace_of (least_edges a) most_rows (records_of bytes) ≡ Ok rows
  pub parted : combinations a ≡ first ++ rest
  pub each : AllZip (AreLinesOfChoice a rows) first lines
  pub told : text ≡ header_line ++ flat_map concat lines

-- a sweep has written the header and the lines of its first combinations, whole, and nothing more
abbrev pub HasSweptFirst : Axes → Text → Option Text → Option Text → Type 0
HasSweptFirst a bytes before after =
    (text : Text) × IsSweepOfFirst a bytes text × Appends before after text

-- what went out of a sweep that the writer cut off is a beginning of the header and the lines of its first combinations
abbrev pub HasSweptBeginning : Axes → Text → Option Text → Option Text → Type 0
HasSweptBeginning a bytes before after =
    (text : Text) × IsSweepOfFirst a bytes text × AppendsBeginning before after text

-- the trace in these bytes is accepted, and executing it in order of time under one of the combinations comes to a
-- cache that can take no further event
pub record IsExhaustingSweep (a : Axes) (bytes : Text) : Type 0 where
  pub rows : List Row
  pub choice : Choice
  pub config : Config
  pub accepted : trace_of (least_edges a) most_rows (records_of bytes) ≡ Ok rows
  pub among : Contains (combinations a) choice
  pub config_is : IsConfigOf a choice config
  pub met : Meets (simulation config rows) end_of_time is_exhausted

-- why a sweep has no table, or could not write it; want of memory may come anywhere
abbrev pub IsSweepFault : Axes → Text → SimFault → Type 0
IsSweepFault a bytes (sim.Trace f) = trace_of (least_edges a) most_rows (records_of bytes) ≡ Err f
IsSweepFault a bytes sim.Exhausted = IsExhaustingSweep a bytes
IsSweepFault a bytes sim.Output = Unit {0}
IsSweepFault a bytes sim.Memory = Unit {0}
IsSweepFault a bytes _ = ⊥
