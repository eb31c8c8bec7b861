-- Sections after a change, and before one that is undone.
use Rattle.std.specs.Prelude.{◌+◌, Bool, true, false, List, [], ◌∷◌, ◌++◌, take, drop, slice_set, insert, remove}
use Rattle.rw_numbers.specs.Words.{Count, Position, Section, Serial}
use Rattle.rw_blocks.specs.declared.Kind.{Kind}
use Rattle.rw_blocks.specs.declared.Kind.TheVariants.{Device, Virtual}
use Rattle.rw_blocks.specs.declared.Vanished.{Vanished}
use Rattle.rw_blocks.specs.declared.Seam.{Seam}
use Rattle.rw_blocks.specs.Sections.{SectionState, section_in, active_of}

-- the sections, of which the one with the number is changed
abbrev pub sections_changing :
    List SectionState → Section → (SectionState → SectionState) → List SectionState
sections_changing ss i change = slice_set ss i (change (section_in ss i))

abbrev pub with_active : Kind → Serial → SectionState → SectionState
with_active Device b s = record s { active_device = b }
with_active Virtual b s = record s { active_virtual = b }

-- the active block of the kind goes to the front of the sealed list, and a fresh one takes its place
abbrev pub section_sealing : Kind → Serial → SectionState → SectionState
section_sealing kind fresh s =
    record (with_active kind fresh s) { sealed = (active_of kind s, kind) ∷ s.sealed }

-- the sealed block at the position is gone
abbrev pub section_losing : Position → SectionState → SectionState
section_losing p s = record s { sealed = remove s.sealed p }

-- the section with its first sealed blocks alone
abbrev pub upper_of : Count → SectionState → SectionState
upper_of count s = record s { sealed = take count s.sealed }

-- the section with more sealed blocks behind its own
abbrev pub section_appending : List (Serial × Kind) → SectionState → SectionState
section_appending blocks s = record s { sealed = s.sealed ++ blocks }

abbrev pub block_unless : Bool → Serial × Kind → List (Serial × Kind)
block_unless true e = []
block_unless false e = e ∷ []

-- the upper section takes over the lower one's blocks; an active one that vanishes is left out
abbrev pub section_joining : Vanished → SectionState → SectionState → SectionState
section_joining vanished upper lower =
    section_appending
    (block_unless vanished.device (lower.active_device, Device)
    ++ (block_unless vanished.virtual_block (lower.active_virtual, Virtual) ++ lower.sealed))
    upper

-- the sections, of which the one with the number has taken over the next one's blocks
abbrev pub joined_at : List SectionState → Section → Vanished → List SectionState
joined_at ss i vanished =
    slice_set
    (remove ss (i + 1))
    i
    (section_joining vanished (section_in ss i) (section_in ss (i + 1)))

-- ---- before a change that is undone
abbrev pub front_of : List (Serial × Kind) → Serial
front_of [] = 0
front_of (e ∷ es) = e.0

-- the front block of the sealed list is active again
abbrev pub section_unsealing : Kind → SectionState → SectionState
section_unsealing kind s =
    record (with_active kind (front_of s.sealed) s) { sealed = drop 1 s.sealed }

-- the sealed block is at the position again
abbrev pub section_gaining : Position → Serial × Kind → SectionState → SectionState
section_gaining p e s = record s { sealed = insert s.sealed p e }

-- the blocks without the first one, unless that vanished
abbrev pub rest_unless : Bool → List (Serial × Kind) → List (Serial × Kind)
rest_unless true es = es
rest_unless false es = drop 1 es

-- the lower one of the two sections that were joined at the seam
abbrev pub lower_of : Seam → SectionState → SectionState
lower_of seam s =
    record {
      active_device = seam.device;
      active_virtual = seam.virtual_block;
      sealed = rest_unless
          seam.vanished.virtual_block
          (rest_unless seam.vanished.device (drop seam.upper_sealed s.sealed));
    }

-- the sections, of which the one with the number is parted in two
abbrev pub parted_at : List SectionState → Section → Seam → List SectionState
parted_at ss i seam =
    insert
    (sections_changing ss i (upper_of seam.upper_sealed))
    (i + 1)
    (lower_of seam (section_in ss i))
