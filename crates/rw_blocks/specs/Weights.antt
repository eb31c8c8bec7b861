-- The bytes of each section, kept beside the sections.
use Rattle.std.specs.Prelude.{◌≡◌, ◌<◌, Bool, List, if◌then◌else◌, length, drop, slice_index_or, sum_by}
use Rattle.std.specs.List.{list_any}
use Rattle.std.specs.Map.{values_of}
use Rattle.rw_numbers.specs.Words.{Object, Position, Section, Serial, Size}
use Rattle.rw_blocks.specs.declared.Place.{Place}
use Rattle.rw_blocks.specs.Sections.{SectionState, section_in, has_block, has_serial}
use Rattle.rw_blocks.specs.State.{QueueState, section_at}
use Rattle.rw_blocks.specs.Loose.{IsLoose}

-- the bytes of the rows whose place passes a test
abbrev pub bytes_where : List (Object × Place) → (Serial → Bool) → Size
bytes_where rows test = sum_by (λ r. if test r.place then r.size else 0) (values_of rows)

-- the bytes of the rows whose place is one of the section's blocks
abbrev pub weight_in : List (Object × Place) → SectionState → Size
weight_in rows s = bytes_where rows (λ b. has_block b s)

-- the bytes of the rows whose place is one of the section's sealed blocks, from a position on
abbrev pub weight_from : QueueState → Section → Position → Size
weight_from q i p =
    bytes_where q.rows (λ b. list_any (has_serial b) (drop p (section_at q i).sealed))

pub record IsWeighed
    (rows : List (Object × Place)) (ss : List SectionState) (bytes : List Size) : Type 0 where
  pub long : length bytes ≡ length ss
  pub each :
      (i : Section)
      → i < length ss
      → slice_index_or bytes i 0 ≡ weight_in rows (section_in ss i)

-- ---- sections that are parted and joined
-- the queue with these sections and this next serial
abbrev pub with_sections : QueueState → List SectionState → Serial → QueueState
with_sections q ss n = record q { sections = ss; next = n }

-- with these sections the queue is loose, for some next serial
abbrev pub CanHave : QueueState → List SectionState → Type 0
CanHave q ss = (n : Serial) × IsLoose (with_sections q ss n)
