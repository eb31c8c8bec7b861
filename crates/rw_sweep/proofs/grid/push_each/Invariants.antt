use Rattle.std.proofs.Common.{◌≡◌, ◌++◌, map, take}
use Rattle.rw_sweep.specs.Widening.{with_number}
use Rattle.rw_sweep.proofs.grid.push_each.Given as goal

abbrev pub invariant-loop-number : goal.invariant-loop-number
invariant-loop-number l = l.all.items ≡ l.fn.all.items ++ map (with_number l.axis l.choice) (take l.number-index l.numbers)
