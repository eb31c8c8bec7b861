-- What becomes of some parts.
use Rattle.std.specs.Prelude.{◌≡◌, ◌<◌, ◌≤◌, List, All, Option, IfSome, length}
use Rattle.std.specs.List.{AllZip}
use Rattle.rw_vt.specs.Words.{Count, Position}
use Rattle.rw_trace.specs.Words.{Text}
use Rattle.rw_sweep.specs.declared.axes.Axes.{Axes}
use Rattle.rw_sweep.specs.Grids.{combinations}
use Rattle.rw_sweep.specs.Limits.{most_configurations}
use Rattle.rw_sweep.specs.Parts.{IsPartSweepOf}
use Rattle.rw_sweep.specs.Sweep.{IsSweepOf}
use Rattle.rw_sweep.specs.Joining.{HasEachOnce, PlacedLine, in_order_of_place, lines_of_all, lines_of_place}
use Rattle.rw_sweep.specs.PartLines.{IsPartWith}

-- the text is the table of so many configurations that these parts make: each text is a part, each place is that of one
-- of so many, each of these has three lines, and behind the header stand the lines of all parts in the order of their
-- places, without the places
pub record IsJoinOf (texts : List Text) (count : Count) (text : Text) : Type 0 where
  pub parts : List (List PlacedLine)
  pub have : AllZip IsPartWith texts parts
  pub within : All (λ l. l.place < count) (lines_of_all parts)
  pub three : (place : Position) → place < count
      → length (lines_of_place (lines_of_all parts) place) ≡ 3
  pub told : text ≡ in_order_of_place count (lines_of_all parts)

-- the same, of as many configurations as are asked for
abbrev pub HasJoined : List Text → Option Count → Text → Type 0
HasJoined texts asked text =
    (count : Count) × IsJoinOf texts count text × IfSome asked (λ n. count ≡ n)

-- what the parts of a sweep make, in whatever order, each there once, is the sweep, if its grid is not too large
abbrev pub JoinOfPartsIsTheSweep : Type 0
JoinOfPartsIsTheSweep =
    (a : Axes) (bytes : Text) (parts : Count) (indices : List Position) (texts : List Text)
    (count : Count) (text : Text)
    → 0 < parts → HasEachOnce parts indices
    → AllZip (λ index t. IsPartSweepOf a index parts bytes t) indices texts
    → length (combinations a) ≤ most_configurations → IsJoinOf texts count text
    → IsSweepOf a bytes text
