use Rattle.std.proofs.Common.{◌≡◌, take}
use Rattle.rw_import.specs.Lines.{trace_lines}
use Rattle.rw_import.proofs.text.lines.Given as goal

abbrev pub invariant-loop-row : goal.invariant-loop-row
invariant-loop-row l = l.text.items ≡ trace_lines l.kinds (take l.row-index l.rows)
