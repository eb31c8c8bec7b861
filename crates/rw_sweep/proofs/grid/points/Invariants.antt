use Rattle.std.proofs.Common.{◌≡◌, All, map, take}
use Rattle.rw_sweep.specs.Points.{IsPlain, IsPoint}
use Rattle.rw_sweep.proofs.grid.points.Given as goal

abbrev pub invariant-loop-choice : goal.invariant-loop-choice
invariant-loop-choice l = record {
  choices : map (λ p. p.choice) l.points.items ≡ take l.choice-index l.choices;
  each : All (IsPoint l.axes) l.points.items;
  plain : All IsPlain l.points.items;
}
