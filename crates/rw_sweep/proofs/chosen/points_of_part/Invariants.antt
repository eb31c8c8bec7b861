use Rattle.std.proofs.Common.{◌≡◌, take}
use Rattle.rw_sweep.specs.Points.{points_of_part}
use Rattle.rw_sweep.proofs.chosen.points_of_part.Given as goal

abbrev pub invariant-loop-place : goal.invariant-loop-place
invariant-loop-place l = l.own.items ≡ points_of_part l.part.index l.part.count (take l.place l.points)
