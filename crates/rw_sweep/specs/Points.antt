-- The configurations of a grid, each beside its choice.
use Rattle.std.specs.Prelude.{◌≡◌, List, All, Option, None, Some, map}
use Rattle.std.specs.List.{Contains}
use Rattle.rw_sweep.specs.declared.axes.Axes.{Axes}
use Rattle.rw_sweep.specs.declared.part.Part.{Part}
use Rattle.rw_sweep.specs.declared.point.Point.{Point}
use Rattle.rw_sweep.specs.declared.facts.Facts.{Facts}
use Rattle.rw_report.specs.declared.intervals.Outlook.{Outlook}
use Rattle.rw_vt.specs.Words.{Count, Position}
use Rattle.rw_sweep.specs.Parts.{dealt}
use Rattle.rw_sweep.specs.Grids.{IsConfigOf, IsInGridRanges, combinations}

-- its choice is in its ranges, this is its configuration, and its seconds have as many ticks as those of all
pub record IsPoint (a : Axes) (p : Point) : Type 0 where
  pub in_range : IsInGridRanges p.choice
  pub config_is : IsConfigOf a p.choice p.config
  pub ticks : p.ticks_a_second ≡ a.ticks_a_second

-- its lines are told, and without its place
pub record IsPlain (p : Point) : Type 0 where
  pub unplaced : p.place ≡ None
  pub lines : p.outlook ≡ None

-- these are the combinations in order, each with its configuration, and told plainly
pub record ArePoints (a : Axes) (points : List Point) : Type 0 where
  pub choices : map (λ p. p.choice) points ≡ combinations a
  pub each : All (IsPoint a) points
  pub plain : All IsPlain points

-- a configuration of the grid
pub record IsOfGrid (a : Axes) (p : Point) : Type 0 where
  pub is : IsPoint a p
  pub among : Contains (combinations a) p.choice

-- the configuration at a place, told with it
abbrev pub told_at : Position × Point → Point
told_at at = record at.1 { place = Some at.0 }

-- the configurations of a part, in order, told with their places
abbrev pub points_of_part : Position → Count → List Point → List Point
points_of_part index count points = map told_at (dealt index count points)

-- the configurations of a grid, or of a part of it, in order, the latter with their places
abbrev pub chosen_points : Option Part → List Point → List Point
chosen_points None points = points
chosen_points (Some part) points = points_of_part part.index part.count points

-- a configuration of which an outlook is told
abbrev pub with_outlook : Outlook → Point → Point
with_outlook o p = record p { outlook = Some o }

-- a configuration that runs a trace of which so much is said
abbrev pub with_facts : Facts → Point → Point
with_facts facts p = record p { facts = facts }

-- the same configurations, of each of which an outlook is told
abbrev pub points_under : Option Part → Outlook → List Point → List Point
points_under part o points = map (with_outlook o) (chosen_points part points)
