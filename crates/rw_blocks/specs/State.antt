-- The queue as data.
use Rattle.std.specs.Prelude.{◌≤◌, List, [], ◌∷◌, Option, unwrap_or}
use Rattle.rw_blocks.specs.Sections.{SectionState, new_section, section_in, sealed_in}
use Rattle.rw_blocks.specs.Rows.{row_in}
use Rattle.rw_numbers.specs.Words.{Count, Object, Position, Section, Serial, Size}
use Rattle.rw_blocks.specs.Limits.{largest_block, most_blocks, most_sections}
use Rattle.rw_blocks.specs.declared.Kind.{Kind}
use Rattle.rw_blocks.specs.declared.Place.{Place}

-- a shape: how many sections there may be, the bytes of a block, and how many device blocks may be sealed
pub record ShapeState : Type 0 where
  pub sections : Count
  pub block : Size
  pub blocks : Count

abbrev pub shape_state : Count → Size → Count → ShapeState
shape_state sections block blocks = record { sections = sections; block = block; blocks = blocks }

-- the ranges of a shape
abbrev pub IsShape : Count → Size → Count → Type 0
IsShape sections block blocks =
    (1 ≤ sections) × (sections ≤ most_sections)
    × (1 ≤ block) × (block ≤ largest_block)
    × (1 ≤ blocks) × (blocks ≤ most_blocks)

-- a queue: its sections from head to tail, its rows in the order of their objects, and the serial of the next block
pub record QueueState : Type 0 where
  pub shape : ShapeState
  pub sections : List SectionState
  pub rows : List (Object × Place)
  pub next : Serial

-- a queue begins with one section, whose active blocks have the serials 0 and 1
abbrev pub start_of : ShapeState → QueueState
start_of limits = record { shape = limits; sections = new_section 0 1 ∷ []; rows = []; next = 2 }

-- ---- sections by their numbers
abbrev pub section_at : QueueState → Section → SectionState
section_at q i = section_in q.sections i

abbrev pub sealed_block : QueueState → Section → Position → Serial × Kind
sealed_block q i p = sealed_in (section_at q i) p

-- ---- rows by their objects
abbrev pub row_at : QueueState → Object → Option Place
row_at q o = row_in q.rows o

abbrev pub no_place : Place
no_place = record { size = 0; home = 0; place = 0 }

abbrev pub row_or : QueueState → Object → Place
row_or q o = unwrap_or (row_at q o) no_place
