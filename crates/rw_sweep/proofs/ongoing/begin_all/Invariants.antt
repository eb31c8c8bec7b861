use Rattle.std.proofs.Common.{◌≡◌, [], All, map, take}
use Rattle.rw_sweep.specs.Ongoing.{HasNotEnded, IsGoingOn}
use Rattle.rw_sweep.proofs.ongoing.begin_all.Given as goal

abbrev pub invariant-loop-point : goal.invariant-loop-point
invariant-loop-point l = record {
  points : map (λ g. g.point) l.runs.items ≡ take l.point-index l.points;
  going : All (IsGoingOn (record { start = l.marks.start; every = l.marks.every }) []) l.runs.items;
  not_ended : All HasNotEnded l.runs.items;
}
