-- From the bytes of a trace to the bytes of its report, on one thread.
use Rattle.std.specs.Prelude.{◌≡◌, List, map, Ok, Err, IfSome, Option, option_map}
use Rattle.std.specs.Io.KnownBytes.{Appends}
use Rattle.rw_vt.specs.declared.event.Event.{Event}
use Rattle.rw_vt.specs.Limits.{end_of_time}
use Rattle.rw_vt.specs.System.{IsOutcome, Meets}
use Rattle.rw_trace.specs.declared.Row.{Row}
use Rattle.rw_trace.specs.Limits.{most_rows, most_streamed_rows}
use Rattle.rw_trace.specs.Pieces.{Ahead, AreAll, RiseFrom, ordered_trace_of}
use Rattle.rw_trace.specs.Trace.{trace_of}
use Rattle.rw_trace.specs.Unread.{records_of}
use Rattle.rw_trace.specs.Words.{Text}
use Rattle.rw_report.specs.Sink.{AppendsBeginning}
use Rattle.rw_report.specs.declared.sim_fault.SimFault.{SimFault}
use Rattle.rw_report.specs.declared.sim_fault.SimFault.TheVariants as sim
use Rattle.rw_photo.specs.declared.body.Body.{Body}
use Rattle.rw_photo.specs.declared.config.Config.{Config}
use Rattle.rw_photo.specs.Cache.{Cache, is_exhausted}
use Rattle.rw_photo.specs.Simulation.{simulation}
use Rattle.rw_report.specs.declared.intervals.Outlook.{Outlook}
use Rattle.rw_report.specs.Intervals.{AreMarks, TellsOf}
use Rattle.rw_report.specs.Report.{report_text}
use Rattle.rw_report.specs.Streams.{IsStreamFault}

-- the text is the report of the trace in these bytes: the trace is accepted with these rows; executing their requests,
-- and all that follows from them, in order of time leaves the caches in these states; and the text tells what they have
-- counted
pub record IsReportOf (c : Config) (bytes text : Text) : Type 0 where
  pub rows : List Row
  pub journals : List (List (Event Body))
  pub states : List Cache
  pub accepted : trace_of c.edges most_rows (records_of bytes) ≡ Ok rows
  pub outcome : IsOutcome (simulation c rows) end_of_time journals states
  pub told : text ≡ report_text c (map (λ s. s.counters) states)

-- the trace in these bytes is accepted, and executing it in order of time comes to a cache that can take no further
-- event
pub record IsExhaustingInOrder (c : Config) (bytes : Text) : Type 0 where
  pub rows : List Row
  pub accepted : trace_of c.edges most_rows (records_of bytes) ≡ Ok rows
  pub met : Meets (simulation c rows) end_of_time is_exhausted

-- why a run of the trace in these bytes on one thread has no report
abbrev pub IsReplayFault : Config → Text → SimFault → Type 0
IsReplayFault c bytes (sim.Trace f) = trace_of c.edges most_rows (records_of bytes) ≡ Err f
IsReplayFault c bytes sim.Exhausted = IsExhaustingInOrder c bytes
IsReplayFault c bytes sim.Memory = Unit {0}
IsReplayFault c bytes _ = ⊥

-- why it has none, or could not write it
abbrev pub IsWritingFault : Config → Text → SimFault → Type 0
IsWritingFault c bytes sim.Output = Unit {0}
IsWritingFault c bytes f = IsReplayFault c bytes f

-- the report is written, between what the writer held before and what it holds after
abbrev pub HasReported : Config → Text → Option Text → Option Text → Type 0
HasReported c bytes before after =
    (text : Text) × IsReportOf c bytes text × Appends before after text

-- what went out is a beginning of the report
abbrev pub HasBegunToReport : Config → Text → Option Text → Option Text → Type 0
HasBegunToReport c bytes before after =
    (text : Text) × IsReportOf c bytes text × AppendsBeginning before after text

-- ---- runs that are looked at over time

-- the text tells of the trace in these bytes what an outlook asks for: the trace is accepted with these rows, and the
-- text tells of a run of them
pub record TellsOfTrace (c : Config) (o : Outlook) (bytes text : Text) : Type 0 where
  pub rows : List Row
  pub accepted : trace_of c.edges most_rows (records_of bytes) ≡ Ok rows
  pub tells : TellsOf c o rows text

-- why there is no such text
abbrev pub IsTextFault : Config → Outlook → Text → SimFault → Type 0
IsTextFault c o bytes sim.Plan = AreMarks o → ⊥
IsTextFault c o bytes f = IsReplayFault c bytes f

-- why there is none, or it could not be written
abbrev pub IsTellingFault : Config → Outlook → Text → SimFault → Type 0
IsTellingFault c o bytes sim.Output = Unit {0}
IsTellingFault c o bytes f = IsTextFault c o bytes f

-- the text is written, between what the writer held before and what it holds after
abbrev pub HasTold : Config → Outlook → Text → Option Text → Option Text → Type 0
HasTold c o bytes before after =
    (text : Text) × TellsOfTrace c o bytes text × Appends before after text

-- what went out is a beginning of it
abbrev pub HasBegunToTell : Config → Outlook → Text → Option Text → Option Text → Type 0
HasBegunToTell c o bytes before after =
    (text : Text) × TellsOfTrace c o bytes text × AppendsBeginning before after text

-- ---- rows that are run as a source gives them

-- the text tells what an outlook asks for of a run of all rows that were to come; they stand in order of time
pub record TellsOfRows (c : Config) (o : Outlook) (ahead : Ahead) (text : Text) : Type 0 where
  pub rows : List Row
  pub given : AreAll ahead rows
  pub rising : RiseFrom 0 rows
  pub tells : TellsOf c o rows text

-- why there is no such text
abbrev pub IsRowsTextFault : Config → Outlook → Ahead → SimFault → Type 0
IsRowsTextFault c o ahead sim.Plan = AreMarks o → ⊥
IsRowsTextFault c o ahead f = IsStreamFault c ahead f

-- why there is none, or it could not be written
abbrev pub IsRowsTellingFault : Config → Outlook → Ahead → SimFault → Type 0
IsRowsTellingFault c o ahead sim.Output = Unit {0}
IsRowsTellingFault c o ahead f = IsRowsTextFault c o ahead f

-- the text is written, between what the writer held before and what it holds after
abbrev pub HasToldOfRows : Config → Outlook → Ahead → Option Text → Option Text → Type 0
HasToldOfRows c o ahead before after =
    (text : Text) × TellsOfRows c o ahead text × Appends before after text

-- what went out is a beginning of it
abbrev pub HasBegunToTellOfRows : Config → Outlook → Ahead → Option Text → Option Text → Type 0
HasBegunToTellOfRows c o ahead before after =
    (text : Text) × TellsOfRows c o ahead text × AppendsBeginning before after text

-- ---- traces that are read as they are run

-- the rows of such a trace: they stand in order of time, and where the bytes are known the trace in them is accepted
-- with these rows
pub record AreStreamedRows (c : Config) (known : Option Text) (rows : List Row) : Type 0 where
  pub accepted : IfSome known (λ bytes.
      trace_of c.edges most_streamed_rows (records_of bytes) ≡ Ok rows)
  pub rising : RiseFrom 0 rows

-- the text tells of such a trace what an outlook asks for
pub record TellsOfStream (c : Config) (o : Outlook) (known : Option Text)
    (text : Text) : Type 0 where
  pub rows : List Row
  pub streamed : AreStreamedRows c known rows
  pub tells : TellsOf c o rows text

-- what such a trace has to give, where the bytes are known: its rows, or its first fault
abbrev pub ahead_of : Config → Option Text → Ahead
ahead_of c known =
    option_map (λ bytes. ordered_trace_of c.edges most_streamed_rows (records_of bytes)) known

-- why there is none, or it could not be written
abbrev pub IsStreamingFault : Config → Outlook → Option Text → SimFault → Type 0
IsStreamingFault c o known f = IsRowsTellingFault c o (ahead_of c known) f

-- the text is written, between what the writer held before and what it holds after
abbrev pub HasStreamed : Config → Outlook → Option Text → Option Text → Option Text → Type 0
HasStreamed c o known before after =
    (text : Text) × TellsOfStream c o known text × Appends before after text

-- what went out is a beginning of it
abbrev pub HasBegunToStream : Config → Outlook → Option Text → Option Text → Option Text → Type 0
HasBegunToStream c o known before after =
    (text : Text) × TellsOfStream c o known text × AppendsBeginning before after text
