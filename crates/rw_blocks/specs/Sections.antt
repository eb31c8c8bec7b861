-- Sections as data.
use Rattle.std.specs.Prelude.{◌≡◌, ◌<◌, Bool, true, false, ◌&&◌, not, List, [], ◌∷◌, length, slice_index_or, count_by, nat_eq}
use Rattle.std.specs.List.{list_any}
use Rattle.rw_numbers.specs.Words.{Count, Position, Section, Serial}
use Rattle.rw_blocks.specs.declared.Kind.{Kind}
use Rattle.rw_blocks.specs.declared.Kind.TheVariants.{Device, Virtual}

-- a section: the serials of its active blocks, and its sealed blocks from front to back, each a serial with its kind
pub record SectionState : Type 0 where
  pub active_device : Serial
  pub active_virtual : Serial
  pub sealed : List (Serial × Kind)

-- a section with these active blocks, and nothing sealed
abbrev pub new_section : Serial → Serial → SectionState
new_section device virtual_block =
    record { active_device = device; active_virtual = virtual_block; sealed = [] }

-- ---- sections by their numbers
abbrev pub no_section : SectionState
no_section = new_section 0 0

abbrev pub section_in : List SectionState → Section → SectionState
section_in ss i = slice_index_or ss i no_section

abbrev pub active_of : Kind → SectionState → Serial
active_of Device s = s.active_device
active_of Virtual s = s.active_virtual

-- every block of a section
abbrev pub blocks_of : SectionState → List (Serial × Kind)
blocks_of s = (s.active_device, Device) ∷ (s.active_virtual, Virtual) ∷ s.sealed

-- a sealed block of a section, by its position
abbrev pub sealed_in : SectionState → Position → Serial × Kind
sealed_in s p = slice_index_or s.sealed p (0, Device)

-- ---- blocks by their serials
abbrev pub is_virtual : Kind → Bool
is_virtual Device = false
is_virtual Virtual = true

abbrev pub is_kind : Kind → Kind → Bool
is_kind Device k = not (is_virtual k)
is_kind Virtual k = is_virtual k

abbrev pub has_serial : Serial → Serial × Kind → Bool
has_serial b e = nat_eq e.0 b

-- whether it is the block of the kind with the serial
abbrev pub is_block : Kind → Serial → Serial × Kind → Bool
is_block kind b e = nat_eq e.0 b && is_kind kind e.1

-- whether a section has the block, active or sealed
abbrev pub has_block : Serial → SectionState → Bool
has_block b s = list_any (has_serial b) (blocks_of s)

-- ---- sealed blocks
abbrev pub device_count_of : List (Serial × Kind) → Count
device_count_of es = count_by (λ e. is_kind Device e.1) es

abbrev pub devices_in : SectionState → Count
devices_in s = count_by (λ e. is_kind Device e.1) s.sealed

-- no section has a sealed block, or none behind the one with the number
abbrev pub NoneSealed : List SectionState → Type 0
NoneSealed ss = (j : Section) → j < length ss → (section_in ss j).sealed ≡ []

abbrev pub NoneSealedBehind : Section → List SectionState → Type 0
NoneSealedBehind i ss = (j : Section) → i < j → j < length ss → (section_in ss j).sealed ≡ []
