-- The parts of a sweep, put together again.
use Rattle.std.specs.Prelude.{◌≡◌, ◌≢◌, ℕ, ◌<◌, ◌==◌, List, [], ◌∷◌, ◌++◌, All, length, map}
use Rattle.std.specs.List.{AllZip, concat, filter, flat_map, range_with_len}
use Rattle.rw_vt.specs.Words.{Count, Position}
use Rattle.rw_trace.specs.Words.{Text}
pub use Rattle.rw_report.specs.Formats.{newline}
use Rattle.rw_sweep.specs.declared.axes.Axes.{Axes}
use Rattle.rw_sweep.specs.Grids.{combinations}
use Rattle.rw_sweep.specs.Parts.{IsPartSweepOf, part_header, placed_line}
use Rattle.rw_sweep.specs.Sweep.{IsSweepOf}
use Rattle.rw_sweep.specs.Table.{header_line}

-- the text is one line: it has an end, and nothing behind it
pub record IsLine (text : Text) : Type 0 where
  pub body : Text
  pub ends : text ≡ body ++ newline ∷ []
  pub one : All (λ b. b ≢ newline) body

-- a line of a part, beside the place that stands before it
pub record PlacedLine : Type 0 where
  pub place : Position
  pub line : Text

-- the text of a part that has these lines
abbrev pub part_with : List PlacedLine → Text
part_with ls = part_header ++ flat_map (λ l. placed_line l.place l.line) ls

-- the lines of a place, in their order
abbrev pub lines_of_place : List PlacedLine → Position → List Text
lines_of_place ls place = map (λ l. l.line) (filter (λ l. l.place == place) ls)

-- behind the header the lines of so many places, from place 0 on, without the places
abbrev pub in_order_of_place : Count → List PlacedLine → Text
in_order_of_place count ls =
    header_line ++ flat_map (λ place. concat (lines_of_place ls place)) (range_with_len 0 count)

-- all lines of some parts
abbrev pub lines_of_all : List (List PlacedLine) → List PlacedLine
lines_of_all parts = flat_map (λ ls. ls) parts

-- each number below `count` is one of these, once
abbrev pub HasEachOnce : Count → List Position → Type 0
HasEachOnce count indices = (i : ℕ) → i < count → filter (λ j. j == i) indices ≡ i ∷ []

-- these texts have lines, each behind a place; put in the order of the places, and without them, they are the sweep.
-- Each place is that of one of the sweep's configurations, and each of these has three lines
pub record MakeTheSweep (a : Axes) (bytes : Text) (texts : List Text) : Type 0 where
  pub parts : List (List PlacedLine)
  pub have : AllZip (λ text ls. text ≡ part_with ls) texts parts
  pub whole : All (λ l. IsLine l.line) (lines_of_all parts)
  pub within : All (λ l. l.place < length (combinations a)) (lines_of_all parts)
  pub three : (place : Position) → place < length (combinations a)
      → length (lines_of_place (lines_of_all parts) place) ≡ 3
  pub are : IsSweepOf a bytes (in_order_of_place (length (combinations a)) (lines_of_all parts))

-- the parts of a sweep make the sweep, in whatever order they come, if each is there once
abbrev pub PartsMakeTheSweep : Type 0
PartsMakeTheSweep =
    (a : Axes) (bytes : Text) (count : Count) (indices : List Position) (texts : List Text)
    → 0 < count → HasEachOnce count indices
    → AllZip (λ index text. IsPartSweepOf a index count bytes text) indices texts
    → MakeTheSweep a bytes texts
