use Rattle.std.proofs.Common.{◌≡◌, ◌++◌, take}
use Rattle.rw_vt.specs.System.{flatten, map_from}
use Rattle.rw_report.specs.Journal.{answer_line}
use Rattle.rw_report.proofs.journal_text.write_answers.Given as goal

abbrev pub invariant-loop-step : goal.invariant-loop-step
invariant-loop-step l = l.text.items ≡ l.fn.text.items ++ flatten (map_from 0 answer_line (take l.step l.answers))
