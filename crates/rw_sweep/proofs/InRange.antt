-- The choices of points are in their ranges.
use Rattle.std.proofs.Common.{List, [], ◌∷◌, All, map}
use Rattle.std.proofs.lemmas.List.Elements.{All-cons, All-head, All-nil, All-tail}
use Rattle.rw_sweep.specs.declared.axes.Axes.{Axes}
use Rattle.rw_sweep.specs.declared.point.Point.{Point}
use Rattle.rw_sweep.specs.Grids.{IsInGridRanges}
use Rattle.rw_sweep.specs.Points.{IsPoint}

pub choices-in-range : (a : Axes) (points : List Point) → All (IsPoint a) points → All IsInGridRanges (map (λ p. p.choice) points)
choices-in-range a [] each = All-nil IsInGridRanges
choices-in-range a (p ∷ ps) each =
    let here = All-head (IsPoint a) p ps each in
    All-cons IsInGridRanges p.choice (map (λ p. p.choice) ps) here.in_range (choices-in-range a ps (All-tail (IsPoint a) p ps each))
