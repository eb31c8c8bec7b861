use Rattle.std.proofs.Common.{◌≡◌, map, take}
use Rattle.rw_sweep.specs.Points.{with_facts}
use Rattle.rw_sweep.proofs.chosen.points_of_trace.Given as goal

abbrev pub invariant-loop-point : goal.invariant-loop-point
invariant-loop-point l = l.own.items ≡ map (with_facts l.facts) (take l.point-index l.points)
