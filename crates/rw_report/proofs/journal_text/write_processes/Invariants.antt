use Rattle.std.proofs.Common.{◌≡◌, ◌++◌, take}
use Rattle.rw_report.proofs.Journals.{process_lines}
use Rattle.rw_report.proofs.journal_text.write_processes.Given as goal

abbrev pub invariant-loop-process : goal.invariant-loop-process
invariant-loop-process l = l.text.items ≡ l.fn.text.items ++ process_lines 0 (take l.process l.world.world.processes)
