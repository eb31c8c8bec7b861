use Rattle.std.proofs.Common.{◌≡◌, take}
use Rattle.rw_report.specs.Intervals.{counted_by_each}
use Rattle.rw_report.proofs.intervals.count_each.Given as goal

abbrev pub invariant-loop-index : goal.invariant-loop-index
invariant-loop-index l = l.counted.items ≡ counted_by_each (take l.index l.earlier) (take l.index l.later)
