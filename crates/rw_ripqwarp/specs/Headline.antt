-- What is proved of the whole, where a statement of its own says it: README's second sentence, and that there is one
-- report. Behind them stands what `simulate` says that it has written. README's first sentence is the contract of
-- `execute_and_reverse`, and its third the clause `report` of `simulate`.
use Rattle.std.specs.Prelude.{◌≡◌, List, Option}
use Rattle.std.specs.Io.KnownBytes.{Appends}
use Rattle.rw_vt.specs.System.{Setting, system_in}
use Rattle.rw_trace.specs.Words.{Text}
use Rattle.rw_report.specs.Sink.{AppendsBeginning}
use Rattle.rw_photo.specs.declared.config.Config.{Config}
use Rattle.rw_photo.specs.contracts.body.BodyOrd.TheImpl as order
use Rattle.rw_photo.specs.contracts.photo.PhotoVtModel.TheImpl as model
use Rattle.rw_report.specs.Replay.{IsReportOf}
use Rattle.rw_world.specs.declared.step.Step.{Step}
use Rattle.rw_world.specs.WorldState.{opening_world}
use Rattle.rw_world.specs.Steps.{run}
use Rattle.rw_world.specs.Sound.{IsInOrder}
use Rattle.rw_ripqwarp.specs.Simulate.{IsTextOf}
use Rattle.rw_ripqwarp.specs.declared.mode.Mode.{Mode}

-- After any schedule of executions, undoings, deliveries of messages and of anti-messages, which cancel, and
-- collections, the committed events and the states that they leave are those of executing all events in order of time:
-- in every setting of the caches, for every list of steps
abbrev pub AnySchedule : Type 0
AnySchedule = (k : Setting model.ghosts) (steps : List Step)
    → IsInOrder (system_in order.ghosts.cmp k)
    (run (system_in order.ghosts.cmp k) (opening_world (system_in order.ghosts.cmp k)) steps)

-- The report of the trace in these bytes, under a configuration, is one text
abbrev pub TraceHasOneReport : Type 0
TraceHasOneReport =
    (c : Config) (bytes one other : Text) → IsReportOf c bytes one → IsReportOf c bytes other
    → one ≡ other

-- What calls say

-- a finished run of the trace in these bytes has written, between what the writer held before and what it holds after,
-- the text of its mode
abbrev pub HasWritten : Mode → Config → Text → Option Text → Option Text → Type 0
HasWritten mode c bytes before after =
    (text : Text) × IsTextOf mode c bytes text × Appends before after text

-- what went out of a run that the writer cut off is a beginning of that text
abbrev pub HasWrittenBeginning : Mode → Config → Text → Option Text → Option Text → Type 0
HasWrittenBeginning mode c bytes before after =
    (text : Text) × IsTextOf mode c bytes text × AppendsBeginning before after text
