-- Runs of configurations that take rows in as these are read.
use Rattle.std.specs.Prelude.{◌≡◌, ◌<◌, ◌≤◌, ◌+◌, ◌^◌, ◌-◌, ℕ, List, ◌++◌, All, ⊤, MatchResult, Result, Some, length, slice_index_or}
use Rattle.std.specs.List.{AllZip, Any, concat}
use Rattle.rw_vt.specs.Words.{Time}
use Rattle.rw_vt.specs.System.{Meets}
use Rattle.rw_vt.specs.declared.refusal.Refusal.{Refusal}
use Rattle.rw_vt.specs.declared.refusal.Refusal.TheVariants.{Exhausted}
use Rattle.rw_blocks.specs.State.{IsShape}
use Rattle.rw_trace.specs.declared.Row.{Row}
use Rattle.rw_trace.specs.Laws.{IsRow}
use Rattle.rw_trace.specs.Limits.{latest_time}
use Rattle.rw_trace.specs.Pieces.{Ahead, AreAll, RiseFrom, last_time}
use Rattle.rw_trace.specs.Words.{Text}
use Rattle.rw_photo.specs.Cache.{is_exhausted}
use Rattle.rw_photo.specs.Simulation.{simulation}
use Rattle.rw_report.specs.declared.intervals.Outlook.{Outlook}
use Rattle.rw_report.specs.History.{IsRecordingOf, RecordingState}
use Rattle.rw_report.specs.Streams.{IsExhaustingFirst}
use Rattle.rw_report.specs.declared.sim_fault.SimFault.{SimFault}
use Rattle.rw_report.specs.declared.sim_fault.SimFault.TheVariants as sim
use Rattle.rw_trace.specs.declared.pieces.RowsFault.TheVariants as rows
use Rattle.rw_trace.specs.Pieces.{IsRefusal}
use Rattle.rw_sweep.specs.declared.point.Point.{Point}
use Rattle.rw_sweep.specs.declared.ongoing.OngoingRun.{OngoingRun}
use Rattle.rw_sweep.specs.declared.facts.Facts.{Facts}
use Rattle.rw_sweep.specs.Facts.{facts_of}
use Rattle.rw_sweep.specs.Working.{IsTextOfPoint}

-- the marks at which all runs are looked at
pub record MarksAt : Type 0 where
  pub start : Time
  pub every : Time

-- the recording of a configuration has taken in these rows, in order, and has come to the time of the last of them
pub record HasTakenIn (at : MarksAt) (rows : List Row) (p : Point)
    (r : RecordingState) : Type 0 where
  pub config : r.run.config ≡ p.config
  pub start : r.start ≡ at.start
  pub every : r.every ≡ at.every
  pub time : r.run.time ≡ last_time 0 rows
  pub recording : IsRecordingOf rows r

-- running the first of these rows, up to the time of the last of those, comes to a cache that can take no further event
pub record IsExhaustedBy (rows : List Row) (p : Point) : Type 0 where
  pub first : List Row
  pub rest : List Row
  pub parted : rows ≡ first ++ rest
  pub met : Meets (simulation p.config first) (last_time 0 first) is_exhausted

-- what has become of a run that has taken in these rows
abbrev pub IsStanding : MarksAt → List Row → Point → Result RecordingState Refusal → Type 0
IsStanding at rows p s =
    MatchResult s (HasTakenIn at rows p) (λ e. e ≡ Exhausted → IsExhaustedBy rows p)

-- so far the run has taken in these rows, or has ended
abbrev pub IsGoingOn : MarksAt → List Row → OngoingRun → Type 0
IsGoingOn at rows g = IsStanding at rows g.point g.recording

-- the run has not ended
abbrev pub HasNotEnded : OngoingRun → Type 0
HasNotEnded g = MatchResult g.recording (λ r. ⊤) (λ e. ⊥)

-- the run has not ended, and has not gone past the latest time of a row
abbrev pub MayFinish : OngoingRun → Type 0
MayFinish g = MatchResult g.recording (λ r. r.run.time ≤ latest_time) (λ e. ⊥)

-- a run may take in a piece more: its rows are in their ranges, none is before the time that the run has reached, or
-- before the row in front of it, and with those that it has taken in before they are not too many
pub record TakesPiece (piece : List Row) (r : RecordingState) : Type 0 where
  pub ranges : All (IsRow r.run.config.edges) piece
  pub rising : RiseFrom r.run.time piece
  pub before : List Row
  pub recording : IsRecordingOf before r
  pub few : length before + length piece ≤ 2 ^ 64 - 1

abbrev pub MayTake : List Row → OngoingRun → Type 0
MayTake piece g = MatchResult g.recording (TakesPiece piece) (λ e. ⊥)

-- a recording has taken in a piece more, or has ended on the way
pub record HasTakenPiece (piece : List Row) (r : RecordingState)
    (s : Result RecordingState Refusal) : Type 0 where
  pub taken : (at : MarksAt) (rows : List Row) (p : Point) → HasTakenIn at rows p r
      → IsStanding at (rows ++ piece) p s

-- a run has taken in a piece more, or has ended on the way
pub record IsFed (piece : List Row) (g h : OngoingRun) : Type 0 where
  pub point : h.point ≡ g.point
  pub fed : (at : MarksAt) (rows : List Row) → IsGoingOn at rows g → IsGoingOn at (rows ++ piece) h

-- the same, of each run
pub record AreFed (piece : List Row) (gs hs : List OngoingRun) : Type 0 where
  pub many : length hs ≡ length gs
  pub each : (i : ℕ) (d : OngoingRun) → i < length gs
      → IsFed piece (slice_index_or gs i d) (slice_index_or hs i d)

-- all these runs have taken in these rows, which are all that was to come, and stand in order of time; and so much is
-- said of them
pub record HaveTakenAll (at : MarksAt) (edges : ℕ) (ahead : Ahead) (facts : Facts)
    (gs : List OngoingRun) : Type 0 where
  pub rows : List Row
  pub facts_are : facts ≡ facts_of rows
  pub given : AreAll ahead rows
  pub rising : RiseFrom 0 rows
  pub ranges : All (IsRow edges) rows
  pub going : All (IsGoingOn at rows) gs
  pub not_ended : All HasNotEnded gs

-- why they have not: the trace is refused, or a run is
abbrev pub IsFaultOfRuns : List Point → Ahead → SimFault → Type 0
IsFaultOfRuns points ahead (sim.Trace f) = IsRefusal ahead (rows.Trace f)
IsFaultOfRuns points ahead sim.Exhausted = Any (λ p. IsExhaustingFirst p.config ahead) points
IsFaultOfRuns points ahead sim.Memory = Unit {0}
IsFaultOfRuns points ahead sim.Read = Unit {0}
IsFaultOfRuns points ahead _ = ⊥

-- the text is a header, and behind it what is told of these configurations, in order
pub record HasTexts (rows : List Row) (points : List Point) (header text : Text) : Type 0 where
  pub texts : List Text
  pub each : AllZip (IsTextOfPoint rows) points texts
  pub told : text ≡ header ++ concat texts

-- the lines of a configuration can be written, and this is told of it
pub record IsToTell (o : Outlook) (p : Point) : Type 0 where
  pub outlook : p.outlook ≡ Some o
  pub edge_shape : IsShape p.choice.sections p.choice.block p.choice.edge_blocks
  pub origin_shape : IsShape p.choice.sections p.choice.block p.choice.origin_blocks
