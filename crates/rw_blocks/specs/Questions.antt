-- What the questions answer, beside the sums.
use Rattle.std.specs.Prelude.{◌≡◌, ◌+◌, ◌<◌, Bool, not, List, [], ◌∷◌, Option, Some, None, length, position, nat_eq}
use Rattle.rw_numbers.specs.Words.{Position, Section, Serial, Size}
use Rattle.rw_blocks.specs.declared.Kind.{Kind}
use Rattle.rw_blocks.specs.Sections.{SectionState, active_of, has_block, NoneSealedBehind}
use Rattle.rw_blocks.specs.State.{QueueState, section_at}
use Rattle.rw_blocks.specs.Sums.{bytes_held, rows_placed}
use Rattle.rw_blocks.specs.Loose.{count}

-- whether any row's place is the block
abbrev pub is_placed : QueueState → Serial → Bool
is_placed q b = not (nat_eq (length (rows_placed q b)) 0)

-- the section that has the block, active or sealed
abbrev pub section_of : QueueState → Serial → Option Section
section_of q b = position (has_block b) q.sections

-- ---- the last sealed block
-- the last block of the list, or the one so far
abbrev pub last_or : Option (Serial × Kind) → List (Serial × Kind) → Option (Serial × Kind)
last_or so_far [] = so_far
last_or so_far (e ∷ es) = last_or (Some e) es

abbrev pub last_from : Option (Serial × Kind) → List SectionState → Option (Serial × Kind)
last_from so_far [] = so_far
last_from so_far (s ∷ ss) = last_from (last_or so_far s.sealed) ss

-- the last sealed block in queue order, from head to tail and in each section from front to back
abbrev pub last_block : QueueState → Option (Serial × Kind)
last_block q = last_from None q.sections

-- the last position of a section's sealed list, behind which no section has a sealed block
pub record IsLastSealed (q : QueueState) (i : Section) (p : Position) : Type 0 where
  pub there : i < length q.sections
  pub last : p + 1 ≡ length (section_at q i).sealed
  pub nothing_behind : NoneSealedBehind i q.sections

-- ---- the fill of a block, said of its kind
-- where there is a block of a kind with the serial, it holds z bytes as one of that kind
abbrev pub IsHeldOfKind : QueueState → Serial → Size → Type 0
IsHeldOfKind q b z = (kind : Kind) → count kind q b ≡ 1 → z ≡ bytes_held kind q b

-- where the serial is that of a section's active block of a kind, that holds z bytes as one of the kind
abbrev pub IsHeldWhereActive : QueueState → Serial → Size → Type 0
IsHeldWhereActive q b z =
    (kind : Kind) (i : Section)
    → i < length q.sections
    → b ≡ active_of kind (section_at q i)
    → z ≡ bytes_held kind q b
