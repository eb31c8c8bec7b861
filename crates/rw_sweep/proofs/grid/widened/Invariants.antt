use Rattle.std.proofs.Common.{◌≡◌, take}
use Rattle.rw_sweep.specs.Widening.{widened}
use Rattle.rw_sweep.proofs.grid.widened.Given as goal

abbrev pub invariant-loop-choice : goal.invariant-loop-choice
invariant-loop-choice l = l.all.items ≡ widened l.axis l.numbers (take l.choice-index l.choice-items)
