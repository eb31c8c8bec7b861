use Rattle.std.proofs.Common.{◌≡◌, ◌++◌, map, take}
use Rattle.rw_vt.specs.System.{flatten}
use Rattle.rw_report.specs.Journal.{event_line}
use Rattle.rw_report.proofs.journal_text.write_events.Given as goal

abbrev pub invariant-loop-event : goal.invariant-loop-event
invariant-loop-event l = l.text.items ≡ l.fn.text.items ++ flatten (map (event_line l.process) (take l.event-index l.events))
