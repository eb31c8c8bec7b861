use Rattle.std.proofs.Common.{◌≡◌, ◌++◌, take}
use Rattle.rw_report.specs.Columns.{columns_of}
use Rattle.rw_report.proofs.columns.write_columns.Given as goal

abbrev pub invariant-loop-number : goal.invariant-loop-number
invariant-loop-number l = l.text.items ≡ l.fn.text.items ++ columns_of (take l.number-index l.numbers)
