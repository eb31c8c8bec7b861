-- From the bytes of a trace to the bytes of its report, or of its journal.
use Rattle.std.specs.Prelude.{◌≡◌, ◌≢◌, List, Ok, Err}
use Rattle.rw_trace.specs.declared.Row.{Row}
use Rattle.rw_trace.specs.Trace.{trace_of}
use Rattle.rw_trace.specs.Unread.{records_of}
use Rattle.rw_report.specs.declared.sim_fault.SimFault.{SimFault}
use Rattle.rw_report.specs.declared.sim_fault.SimFault.TheVariants as sim
use Rattle.rw_photo.specs.declared.config.Config.{Config}
use Rattle.rw_photo.specs.Cache.{is_exhausted}
use Rattle.rw_photo.specs.Simulation.{simulation}
use Rattle.rw_world.specs.declared.step.Step.{Step}
use Rattle.rw_world.specs.WorldState.{opening_world}
use Rattle.rw_world.specs.Steps.{answers, run}
use Rattle.rw_world.specs.Calls.{MeetsAt}
use Rattle.rw_rounds.specs.Plans.{IsInRanges}
use Rattle.rw_rounds.specs.declared.plan.Plan.{Plan}
use Rattle.rw_rounds.specs.declared.traffic.Traffic.{Traffic}
use Rattle.rw_engine.specs.Alone.{IsTrafficOfRun}
use Rattle.rw_report.specs.Replay.{IsReportOf, IsExhaustingInOrder}
use Rattle.rw_report.specs.Journal.{journal_text}
use Rattle.rw_ripqwarp.specs.declared.mode.Mode.{Mode}
use Rattle.rw_ripqwarp.specs.declared.mode.Mode.TheVariants.{Serial, Warp, Journal}
use Rattle.rw_trace.specs.Limits.{most_rows}
use Rattle.rw_trace.specs.Words.{Text}

-- the text is the journal of the trace in these bytes under these steps: the trace is accepted with these rows; the
-- text tells what the steps answer, refused ones included, and to which world they lead from the one in which nothing
-- is done
pub record IsJournalOf (steps : List Step) (c : Config) (bytes text : Text) : Type 0 where
  pub rows : List Row
  pub accepted : trace_of c.edges most_rows (records_of bytes) ≡ Ok rows
  pub told : text
      ≡ journal_text (answers (simulation c rows) (opening_world (simulation c rows)) steps)
      (run (simulation c rows) (opening_world (simulation c rows)) steps)

-- the text is what this mode makes of the trace in these bytes; rounds of workers make the very report of the one
-- thread
abbrev pub IsTextOf : Mode → Config → Text → Text → Type 0
IsTextOf Serial c bytes text = IsReportOf c bytes text
IsTextOf (Warp plan) c bytes text = IsReportOf c bytes text
IsTextOf (Journal steps) c bytes text = IsJournalOf steps.items c bytes text

-- the trace in these bytes is accepted, and one of these steps, when its turn comes, is to execute an event at such a
-- cache
pub record IsExhaustingBySteps (steps : List Step) (c : Config) (bytes : Text) : Type 0 where
  pub rows : List Row
  pub accepted : trace_of c.edges most_rows (records_of bytes) ≡ Ok rows
  pub met : MeetsAt (simulation c rows) (opening_world (simulation c rows)) is_exhausted steps

-- the trace in these bytes is accepted
pub record IsAccepted (c : Config) (bytes : Text) : Type 0 where
  pub rows : List Row
  pub accepted : trace_of c.edges most_rows (records_of bytes) ≡ Ok rows

-- the trace in these bytes is accepted, and in this mode comes to a cache that can take no further event: rounds of one
-- worker as executing it in order of time does. Of rounds of several only the first is said, since a worker may come to
-- such a cache in a past that is then undone
abbrev pub IsExhausting : Mode → Config → Text → Type 0
IsExhausting Serial c bytes = IsExhaustingInOrder c bytes
IsExhausting (Warp plan) c bytes =
    IsAccepted c bytes × (plan.workers ≡ 1 → IsExhaustingInOrder c bytes)
IsExhausting (Journal steps) c bytes = IsExhaustingBySteps steps.items c bytes

-- the trace in these bytes is accepted, and in this mode rounds may be used up: those of several workers
abbrev pub UsesUpRounds : Mode → Config → Text → Type 0
UsesUpRounds (Warp plan) c bytes = IsAccepted c bytes × (plan.workers ≢ 1)
UsesUpRounds _ c bytes = ⊥

-- a run in this mode goes on in more threads than one
abbrev pub HasThreads : Mode → Type 0
HasThreads (Warp plan) = plan.workers ≢ 1
HasThreads _ = ⊥

-- the trace is run in rounds
abbrev pub IsWarp : Mode → Type 0
IsWarp (Warp plan) = Unit {0}
IsWarp _ = ⊥

-- rounds of one worker tell what they did: of the trace in these bytes, if it is accepted, each event was executed once
abbrev pub CountsOneWorker : Mode → Config → Text → Traffic → Type 0
CountsOneWorker (Warp plan) c bytes traffic =
    plan.workers ≡ 1 → (rows : List Row)
    → trace_of c.edges most_rows (records_of bytes) ≡ Ok rows
    → IsTrafficOfRun plan (simulation c rows) traffic
CountsOneWorker _ c bytes traffic = Unit {0}

-- the trace is run in rounds by a plan of which some field is out of its range
abbrev pub HasBadPlan : Mode → Type 0
HasBadPlan (Warp plan) = IsInRanges plan → ⊥
HasBadPlan _ = ⊥

-- a run in this mode gets past its plan
abbrev pub HasGoodPlan : Mode → Type 0
HasGoodPlan mode = HasBadPlan mode → ⊥

-- why a run of the trace in these bytes has no report or journal, or could not write it. The trace is tested before the
-- plan, and want of memory may come anywhere
abbrev pub IsRunFault : Mode → Config → Text → SimFault → Type 0
IsRunFault mode c bytes (sim.Trace f) = trace_of c.edges most_rows (records_of bytes) ≡ Err f
IsRunFault mode c bytes sim.Read = ⊥
IsRunFault mode c bytes sim.Plan = IsWarp mode × IsAccepted c bytes × HasBadPlan mode
IsRunFault mode c bytes sim.Exhausted = IsExhausting mode c bytes × HasGoodPlan mode
IsRunFault mode c bytes sim.Rounds = UsesUpRounds mode c bytes × HasGoodPlan mode
IsRunFault mode c bytes sim.NoThread = HasThreads mode × IsAccepted c bytes × HasGoodPlan mode
IsRunFault mode c bytes sim.Output = HasGoodPlan mode
IsRunFault mode c bytes sim.Memory = Unit {0}
