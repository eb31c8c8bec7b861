-- What those who work on a sweep need and make.
use Rattle.std.specs.Prelude.{◌≡◌, ◌<◌, ◌≤◌, ◌^◌, ℕ, Bool, List, ◌++◌, length, All, Option, Some, None, IfSome, Result, Ok, Err, MatchBool, MatchResult, slice_index_or}
use Rattle.std.specs.List.{AllZip, Any, concat}
use Rattle.std.specs.Io.KnownBytes.{Appends}
use Rattle.std.specs.Global.{Vec}
use Rattle.rw_vt.specs.declared.refusal.Refusal.{Refusal}
use Rattle.rw_vt.specs.declared.refusal.Refusal.TheVariants.{Exhausted}
use Rattle.rw_vt.specs.System.{Meets}
use Rattle.rw_vt.specs.Limits.{end_of_time}
use Rattle.rw_report.specs.Sink.{AppendsBeginning}
use Rattle.rw_report.specs.declared.sim_fault.SimFault.{SimFault}
use Rattle.rw_report.specs.declared.sim_fault.SimFault.TheVariants as sim
use Rattle.rw_blocks.specs.State.{IsShape}
use Rattle.rw_trace.specs.declared.Row.{Row}
use Rattle.rw_trace.specs.Laws.{IsRow}
use Rattle.rw_trace.specs.Limits.{most_rows}
use Rattle.rw_trace.specs.Trace.{trace_of}
use Rattle.rw_trace.specs.Unread.{records_of}
use Rattle.rw_trace.specs.Words.{Text}
use Rattle.rw_photo.specs.Cache.{is_exhausted}
use Rattle.rw_photo.specs.Simulation.{simulation}
use Rattle.rw_sweep.specs.declared.axes.Axes.{Axes}
use Rattle.rw_sweep.specs.declared.point.Point.{Point}
use Rattle.rw_sweep.specs.declared.entry.Entry.{Entry}
use Rattle.rw_report.specs.declared.intervals.Outlook.{Outlook}
use Rattle.rw_report.specs.Intervals.{AreMarks}
use Rattle.rw_sweep.specs.Facts.{facts_of}
use Rattle.rw_sweep.specs.OverTime.{HasLines, TellsOfChoice}
use Rattle.rw_sweep.specs.Grids.{least_edges}

-- a configuration can run these rows, its line can be written, what is asked of it can be told, and what is said of the
-- trace is said of these rows
pub record CanRun (rows : List Row) (p : Point) : Type 0 where
  pub rows_in_range : All (IsRow p.config.edges) rows
  pub few : length rows ≤ 2 ^ 63
  pub facts : p.facts ≡ facts_of rows
  pub marks : IfSome p.outlook AreMarks
  pub edge_shape : IsShape p.choice.sections p.choice.block p.choice.edge_blocks
  pub origin_shape : IsShape p.choice.sections p.choice.block p.choice.origin_blocks

-- running these rows under a configuration comes to a cache that can take no further event
abbrev pub IsExhaustedAt : List Row → Point → Type 0
IsExhaustedAt rows p = Meets (simulation p.config rows) end_of_time is_exhausted

-- the text is what is told of a configuration at work on these rows: its lines, or what an outlook asks for
abbrev pub IsTextUnder : Option Outlook → List Row → Point → Text → Type 0
IsTextUnder None rows p text = HasLines p.config p.choice p.ticks_a_second p.place rows text
IsTextUnder (Some o) rows p text =
    TellsOfChoice p.config p.choice p.ticks_a_second p.place o rows text

abbrev pub IsTextOfPoint : List Row → Point → Text → Type 0
IsTextOfPoint rows p text = IsTextUnder p.outlook rows p text

-- what became of a configuration: its lines, or why there are none
abbrev pub IsResultOf : List Row → Point → Result (Vec ℕ) Refusal → Type 0
IsResultOf rows p r =
    MatchResult r (λ text. IsTextOfPoint rows p text.items)
    (λ refusal. refusal ≡ Exhausted → IsExhaustedAt rows p)

-- the entry says what became of the configuration of its number
abbrev pub IsEntryOf : List Row → List Point → Entry → Type 0
IsEntryOf rows points e =
    (p : Point) → e.index < length points
    → IsResultOf rows (slice_index_or points e.index p) e.lines

-- a slot for each configuration; what stands in it became of that one
pub record AreSlots (rows : List Row) (points : List Point)
    (slots : List (Option (Result (Vec ℕ) Refusal))) : Type 0 where
  pub many : length slots ≡ length points
  pub each : (i : ℕ) (p : Point) (d : Option (Result (Vec ℕ) Refusal)) → i < length points
      → IfSome (slice_index_or slots i d) (IsResultOf rows (slice_index_or points i p))

-- what a writer holds has grown by a text, or, where it did not take the whole, by a beginning of it
abbrev pub Takes : Bool → Option Text → Option Text → Text → Type 0
Takes whole before after text =
    MatchBool whole (Appends before after text) (AppendsBeginning before after text)

-- a writer has taken the lines of a configuration, whole or not
pub record HasTakenPoint (whole : Bool) (rows : List Row) (p : Point)
    (before after : Option Text) : Type 0 where
  pub text : Text
  pub tells : IsTextOfPoint rows p text
  pub taken : Takes whole before after text

-- a writer has taken a header and behind it the lines of these configurations, in order, whole or not
pub record HasTaken (whole : Bool) (rows : List Row) (points : List Point) (header : Text)
    (before after : Option Text) : Type 0 where
  pub texts : List Text
  pub each : AllZip (IsTextOfPoint rows) points texts
  pub taken : Takes whole before after (header ++ concat texts)

-- the same, of the first ones of these configurations
pub record HasTakenFirst (whole : Bool) (rows : List Row) (points : List Point) (header : Text)
    (before after : Option Text) : Type 0 where
  pub first : List Point
  pub rest : List Point
  pub parted : points ≡ first ++ rest
  pub taken : HasTaken whole rows first header before after

-- the trace in these bytes is accepted, and so much holds of its rows
pub record IsAcceptedWith (a : Axes) (bytes : Text) (Holds : List Row → Type 0) : Type 0 where
  pub rows : List Row
  pub accepted : trace_of (least_edges a) most_rows (records_of bytes) ≡ Ok rows
  pub holds : Holds rows

-- why the lines of these configurations are not all out
abbrev pub IsFaultOfPoints : Axes → Text → List Point → SimFault → Type 0
IsFaultOfPoints a bytes points (sim.Trace f) =
    trace_of (least_edges a) most_rows (records_of bytes) ≡ Err f
IsFaultOfPoints a bytes points sim.Exhausted =
    IsAcceptedWith a bytes (λ rows. Any (IsExhaustedAt rows) points)
IsFaultOfPoints a bytes points sim.Output = Unit {0}
IsFaultOfPoints a bytes points sim.Memory = Unit {0}
IsFaultOfPoints a bytes points _ = ⊥
