-- Sweeps that tell of their runs over time, or from a time on.
use Rattle.std.specs.Prelude.{◌≡◌, ◌≢◌, Bool, true, false, List, [], ◌++◌, codes, map, Ok, Err, Option, None, Some, unwrap_or}
use Rattle.std.specs.List.{AllZip, Contains, concat}
use Rattle.std.specs.Io.KnownBytes.{Appends}
use Rattle.rw_vt.specs.Words.{Count, Position, Time}
use Rattle.rw_vt.specs.System.{Meets}
use Rattle.rw_vt.specs.Limits.{end_of_time}
use Rattle.rw_trace.specs.declared.Row.{Row}
use Rattle.rw_trace.specs.Limits.{most_rows}
use Rattle.rw_trace.specs.Trace.{trace_of}
use Rattle.rw_trace.specs.Unread.{records_of}
use Rattle.rw_trace.specs.Words.{Text}
use Rattle.rw_report.specs.Sink.{AppendsBeginning}
use Rattle.rw_report.specs.declared.sim_fault.SimFault.{SimFault}
use Rattle.rw_report.specs.declared.sim_fault.SimFault.TheVariants as sim
use Rattle.rw_photo.specs.declared.config.Config.{Config}
use Rattle.rw_photo.specs.Cache.{is_exhausted}
use Rattle.rw_photo.specs.Simulation.{simulation}
use Rattle.std.specs.Option.{is_some}
use Rattle.rw_report.specs.declared.format.Format.{Format}
use Rattle.rw_report.specs.declared.format.Format.TheVariants as format
use Rattle.rw_report.specs.Formats.{json_lines}
use Rattle.rw_report.specs.declared.intervals.Outlook.{Outlook}
use Rattle.rw_report.specs.declared.moments.Moment.{Moment}
use Rattle.rw_report.specs.History.{IsHistory}
use Rattle.rw_report.specs.Intervals.{AddUp, AreMarks, counted_from, intervals_header, lines_of}
use Rattle.rw_sweep.specs.declared.axes.Axes.{Axes}
use Rattle.rw_sweep.specs.declared.choice.Choice.{Choice}
use Rattle.rw_sweep.specs.declared.part.Part.{Part}
use Rattle.rw_sweep.specs.Grids.{IsConfigOf, combinations, least_edges}
use Rattle.rw_sweep.specs.Parts.{before_line, dealt, text_of_lines}
use Rattle.rw_sweep.specs.Sweep.{AreLinesOf}
use Rattle.rw_sweep.specs.Facts.{facts_of}
use Rattle.rw_sweep.specs.Table.{Conditions, choice_columns, choice_names, conditions, header_line, sweep_lines}

-- the name of the column of places, where they are told
abbrev pub before_header : Bool → Text
before_header false = []
before_header true = codes "place,"

-- the names of the columns: of a table over time where intervals are asked for
abbrev pub header_under : Bool → Option Time → Text
header_under is_placed None = before_header is_placed ++ header_line
header_under is_placed (Some every) =
    before_header is_placed ++ choice_names ++ codes "," ++ intervals_header

-- what stands before all lines: the names of the columns, but nothing of JSON, of which each line names them
abbrev pub header_in : Format → Text → Text
header_in format.Text header = header
header_in format.Csv header = header
header_in format.Json header = []

abbrev pub header_told : Option Part → Outlook → Text
header_told part o = header_in o.format (header_under (is_some part) o.every)

-- lines with these names of their columns, as they are, or as JSON objects
abbrev pub in_format : Format → Text → Text → Text
in_format format.Text header lines = lines
in_format format.Csv header lines = lines
in_format format.Json header lines = json_lines header lines

-- what stands before each line of the intervals of a configuration
abbrev pub before_interval : Option Position → Choice → Text
before_interval place x = before_line place ++ choice_columns x ++ codes ","

-- what is told of a configuration, from the moments of its run, under these conditions: the lines of its intervals,
-- where they are asked for, or else its three lines
abbrev pub told_of_choice : Config → Choice → Conditions → Option Position → Option Time
    → List Moment → Text
told_of_choice c x n place (Some every) ms = lines_of c (before_interval place x) ms
told_of_choice c x n place None ms =
    text_of_lines place (sweep_lines c x n (counted_from n.warm_up ms))

-- the text is the three lines of a configuration at work on these rows, each behind its place, where that is told
pub record HasLines (c : Config) (x : Choice) (ticks : Option Count) (place : Option Position)
    (rows : List Row) (text : Text) : Type 0 where
  pub lines : List Text
  pub tell : AreLinesOf c x ticks rows lines
  pub told : text ≡ text_of_lines place lines

-- the text tells of a configuration at work on these rows what an outlook asks for, in its format; where it asks for
-- nothing else, and not for JSON, its three lines; and the intervals add up
pub record TellsOfChoice (c : Config) (x : Choice) (ticks : Option Count)
    (place : Option Position) (o : Outlook) (rows : List Row) (text : Text) : Type 0 where
  pub history : List Moment
  pub is : IsHistory (simulation c rows) (unwrap_or o.warm_up 0) (unwrap_or o.every end_of_time)
      history
  pub told : text ≡ in_format o.format (header_under (is_some place) o.every)
      (told_of_choice c x (conditions ticks o.warm_up (facts_of rows)) place o.every history)
  pub lines : o.warm_up ≡ None → o.every ≡ None → o.format ≢ format.Json
      → HasLines c x ticks place rows text
  pub add_up : AddUp c history

-- the combinations of a sweep, or of a part of it, in order, the latter beside their places
abbrev pub told_choices : Axes → Option Part → List (Option Position × Choice)
told_choices a None = map (λ x. (None, x)) (combinations a)
told_choices a (Some part) =
    map (λ at. (Some at.0, at.1)) (dealt part.index part.count (combinations a))

-- the same, of the configuration of a choice that is told with its place or without
pub record TellsOfPlaced (a : Axes) (o : Outlook) (rows : List Row) (at : Option Position × Choice)
    (text : Text) : Type 0 where
  pub config : Config
  pub config_is : IsConfigOf a at.1 config
  pub tells : TellsOfChoice config at.1 a.ticks_a_second at.0 o rows text

-- behind the header stands what is told of each of these choices, in their order
pub record TellsOfChoices (a : Axes) (o : Outlook) (rows : List Row)
    (choices : List (Option Position × Choice)) (header text : Text) : Type 0 where
  pub texts : List Text
  pub each : AllZip (TellsOfPlaced a o rows) choices texts
  pub told : text ≡ header ++ concat texts

-- the text is a table over a grid, or over a part of it, that tells what an outlook asks for
abbrev pub TellsOfSweep : Axes → Option Part → Outlook → List Row → Text → Type 0
TellsOfSweep a part o rows text =
    TellsOfChoices a o rows (told_choices a part) (header_told part o) text

-- the text is a beginning of that table, which ends where what is told of a configuration ends
pub record TellsOfFirst (a : Axes) (part : Option Part) (o : Outlook) (rows : List Row)
    (text : Text) : Type 0 where
  pub first : List (Option Position × Choice)
  pub rest : List (Option Position × Choice)
  pub parted : told_choices a part ≡ first ++ rest
  pub tells : TellsOfChoices a o rows first (header_told part o) text

-- a sweep has written that table, between what the writer held before and what it holds after: the trace in these bytes
-- is accepted with these rows
pub record HasSweptOverTime (a : Axes) (part : Option Part) (o : Outlook) (bytes : Text)
    (before after : Option Text) : Type 0 where
  pub text : Text
  pub rows : List Row
  pub accepted : trace_of (least_edges a) most_rows (records_of bytes) ≡ Ok rows
  pub tells : TellsOfSweep a part o rows text
  pub gained : Appends before after text

-- it has written the header and what is told of its first combinations, whole, and nothing more
pub record HasSweptFirstOverTime (a : Axes) (part : Option Part) (o : Outlook) (bytes : Text)
    (before after : Option Text) : Type 0 where
  pub text : Text
  pub rows : List Row
  pub accepted : trace_of (least_edges a) most_rows (records_of bytes) ≡ Ok rows
  pub tells : TellsOfFirst a part o rows text
  pub gained : Appends before after text

-- what went out, where the writer cut it off, is a beginning of that
pub record HasBegunOverTime (a : Axes) (part : Option Part) (o : Outlook) (bytes : Text)
    (before after : Option Text) : Type 0 where
  pub text : Text
  pub rows : List Row
  pub accepted : trace_of (least_edges a) most_rows (records_of bytes) ≡ Ok rows
  pub tells : TellsOfFirst a part o rows text
  pub gained : AppendsBeginning before after text

-- the trace in these bytes is accepted, and executing it in order of time under one of the combinations comes to a
-- cache that can take no further event
pub record IsExhaustingOverTime (a : Axes) (part : Option Part) (bytes : Text) : Type 0 where
  pub rows : List Row
  pub at : Option Position × Choice
  pub config : Config
  pub accepted : trace_of (least_edges a) most_rows (records_of bytes) ≡ Ok rows
  pub among : Contains (told_choices a part) at
  pub config_is : IsConfigOf a at.1 config
  pub met : Meets (simulation config rows) end_of_time is_exhausted

-- why the table is not written; want of memory may come anywhere
abbrev pub IsOverTimeFault : Axes → Option Part → Outlook → Text → SimFault → Type 0
IsOverTimeFault a part o bytes (sim.Trace f) =
    trace_of (least_edges a) most_rows (records_of bytes) ≡ Err f
IsOverTimeFault a part o bytes sim.Exhausted = IsExhaustingOverTime a part bytes
IsOverTimeFault a part o bytes sim.Plan = AreMarks o → ⊥
IsOverTimeFault a part o bytes sim.Output = Unit {0}
IsOverTimeFault a part o bytes sim.Memory = Unit {0}
IsOverTimeFault a part o bytes _ = ⊥
