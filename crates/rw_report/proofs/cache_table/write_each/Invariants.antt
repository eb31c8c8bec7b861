use Rattle.std.proofs.Common.{◌≡◌, ◌++◌, take}
use Rattle.rw_report.specs.Formats.{each_line}
use Rattle.rw_report.proofs.cache_table.write_each.Given as goal

abbrev pub invariant-loop-process : goal.invariant-loop-process
invariant-loop-process l = l.text.items ≡ l.fn.text.items ++ each_line l.config 0 (take l.process l.all)
