-- Sweeps of a trace that is read as it is run.
use Rattle.std.specs.Prelude.{◌≡◌, List, Ok, IfSome, Option, option_map}
use Rattle.std.specs.List.{Contains}
use Rattle.std.specs.Io.KnownBytes.{Appends}
use Rattle.rw_vt.specs.Words.{Position}
use Rattle.rw_trace.specs.declared.Row.{Row}
use Rattle.rw_trace.specs.declared.pieces.RowsFault.TheVariants as rows
use Rattle.rw_trace.specs.Limits.{most_streamed_rows}
use Rattle.rw_trace.specs.Pieces.{Ahead, AreAll, IsRefusal, RiseFrom, ordered_trace_of}
use Rattle.rw_trace.specs.Trace.{trace_of}
use Rattle.rw_trace.specs.Unread.{records_of}
use Rattle.rw_trace.specs.Words.{Text}
use Rattle.rw_report.specs.Sink.{AppendsBeginning}
use Rattle.rw_report.specs.declared.sim_fault.SimFault.{SimFault}
use Rattle.rw_report.specs.declared.sim_fault.SimFault.TheVariants as sim
use Rattle.rw_photo.specs.declared.config.Config.{Config}
use Rattle.rw_report.specs.declared.intervals.Outlook.{Outlook}
use Rattle.rw_report.specs.Intervals.{AreMarks}
use Rattle.rw_report.specs.Streams.{IsExhaustingFirst}
use Rattle.rw_sweep.specs.declared.axes.Axes.{Axes}
use Rattle.rw_sweep.specs.declared.choice.Choice.{Choice}
use Rattle.rw_sweep.specs.declared.part.Part.{Part}
use Rattle.rw_sweep.specs.Grids.{IsConfigOf, least_edges}
use Rattle.rw_sweep.specs.OverTime.{TellsOfSweep, told_choices}

-- the rows of a trace that is read as it is run: they stand in order of time, and where the bytes are known the trace
-- in them is accepted with these rows
pub record AreRowsOfStream (a : Axes) (known : Option Text) (rows : List Row) : Type 0 where
  pub accepted : IfSome known (λ bytes.
      trace_of (least_edges a) most_streamed_rows (records_of bytes) ≡ Ok rows)
  pub rising : RiseFrom 0 rows

-- what such a trace has to give, where the bytes are known: its rows, or its first fault
abbrev pub rows_ahead : Axes → Option Text → Ahead
rows_ahead a known =
    option_map (λ bytes. ordered_trace_of (least_edges a) most_streamed_rows (records_of bytes))
    known

-- a sweep has written the table of such a trace over a grid, or over a part of it, between what the writer held before
-- and what it holds after
pub record HasSweptStream (a : Axes) (part : Option Part) (o : Outlook) (known : Option Text)
    (before after : Option Text) : Type 0 where
  pub text : Text
  pub rows : List Row
  pub streamed : AreRowsOfStream a known rows
  pub tells : TellsOfSweep a part o rows text
  pub gained : Appends before after text

-- what went out is a beginning of it
pub record HasBegunStream (a : Axes) (part : Option Part) (o : Outlook) (known : Option Text)
    (before after : Option Text) : Type 0 where
  pub text : Text
  pub rows : List Row
  pub streamed : AreRowsOfStream a known rows
  pub tells : TellsOfSweep a part o rows text
  pub gained : AppendsBeginning before after text

-- running what was to come under one of the combinations comes to a cache that can take no further event
pub record IsExhaustingStream (a : Axes) (part : Option Part) (ahead : Ahead) : Type 0 where
  pub at : Option Position × Choice
  pub config : Config
  pub among : Contains (told_choices a part) at
  pub config_is : IsConfigOf a at.1 config
  pub met : IsExhaustingFirst config ahead

-- ---- rows that are run as a source gives them

-- the text is the table of all rows that were to come, over a grid, or over a part of it; they stand in order of time
pub record TellsOfSweptRows (a : Axes) (part : Option Part) (o : Outlook) (ahead : Ahead)
    (text : Text) : Type 0 where
  pub rows : List Row
  pub given : AreAll ahead rows
  pub rising : RiseFrom 0 rows
  pub tells : TellsOfSweep a part o rows text

-- a sweep has written that table, between what the writer held before and what it holds after
pub record HasSweptRows (a : Axes) (part : Option Part) (o : Outlook) (ahead : Ahead)
    (before after : Option Text) : Type 0 where
  pub text : Text
  pub tells : TellsOfSweptRows a part o ahead text
  pub gained : Appends before after text

-- what went out is a beginning of it
pub record HasBegunToSweepRows (a : Axes) (part : Option Part) (o : Outlook) (ahead : Ahead)
    (before after : Option Text) : Type 0 where
  pub text : Text
  pub tells : TellsOfSweptRows a part o ahead text
  pub gained : AppendsBeginning before after text

-- why the table is not written: the rows are refused, with the first fault in the order of reading, or a reader answers
-- an error; or a run is refused; want of memory may come anywhere
abbrev pub IsRowsSweepFault : Axes → Option Part → Outlook → Ahead → SimFault → Type 0
IsRowsSweepFault a part o ahead (sim.Trace f) = IsRefusal ahead (rows.Trace f)
IsRowsSweepFault a part o ahead sim.Exhausted = IsExhaustingStream a part ahead
IsRowsSweepFault a part o ahead sim.Plan = AreMarks o → ⊥
IsRowsSweepFault a part o ahead sim.Output = Unit {0}
IsRowsSweepFault a part o ahead sim.Memory = Unit {0}
IsRowsSweepFault a part o ahead sim.Read = Unit {0}
IsRowsSweepFault a part o ahead _ = ⊥

-- why the table of a trace is not written
abbrev pub IsStreamSweepFault : Axes → Option Part → Outlook → Option Text → SimFault → Type 0
IsStreamSweepFault a part o known f = IsRowsSweepFault a part o (rows_ahead a known) f
