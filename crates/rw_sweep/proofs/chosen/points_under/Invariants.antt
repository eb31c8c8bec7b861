use Rattle.std.proofs.Common.{◌≡◌, map, take}
use Rattle.rw_sweep.specs.Points.{with_outlook}
use Rattle.rw_sweep.proofs.chosen.points_under.Given as goal

abbrev pub invariant-loop-point : goal.invariant-loop-point
invariant-loop-point l = l.own.items ≡ map (with_outlook l.outlook) (take l.point-index l.point-items)
