-- What the index of the blocks by section says: each section has a tag of its own, and each block its section's tag.
use Rattle.std.specs.Prelude.{◌≡◌, ◌<◌, ◌+◌, Bool, true, false, if◌then◌else◌, List, Option, Some, None, nat_eq, length, slice_index_or, not, ◌&&◌, ◌||◌, ◌⊎◌}
use Rattle.std.specs.HashMap.{get}
use Rattle.rw_blocks.specs.Words.{Tag}
use Rattle.rw_numbers.specs.Words.{Position, Section, Serial}
use Rattle.rw_blocks.specs.declared.Kind.{Kind}
use Rattle.rw_blocks.specs.declared.Vanished.{Vanished}
use Rattle.rw_blocks.specs.declared.owners.Owners.{Owners}
use Rattle.rw_blocks.specs.Sections.{SectionState, section_in, sealed_in, active_of, has_block}
use Rattle.rw_blocks.specs.Changes.{section_losing, section_joining, section_unsealing}

abbrev pub tag_in : List Tag → Section → Tag
tag_in tags i = slice_index_or tags i 0

-- whether the tag that a block has, if any, is the tag
abbrev pub is_tag : Option Tag → Tag → Bool
is_tag None tag = false
is_tag (Some other) tag = nat_eq other tag

-- no section has the block
abbrev pub IsAbsent : Serial → List SectionState → Type 0
IsAbsent b ss = (i : Section) → i < length ss → has_block b (section_in ss i) ≡ false

-- no section but the one with the number has the block
abbrev pub IsOnlyIn : Section → Serial → List SectionState → Type 0
IsOnlyIn i b ss =
    (j : Section) → j < length ss → (i ≡ j → ⊥) → has_block b (section_in ss j) ≡ false

-- the section with the number has the block, and no other has it
pub record StandsIn (b : Serial) (i : Section) (ss : List SectionState) : Type 0 where
  pub there : i < length ss
  pub here : has_block b (section_in ss i) ≡ true
  pub only : IsOnlyIn i b ss

pub record IsTagged
    (ss : List SectionState) (tags : List Tag) (owner : Serial → Option Tag) : Type 0 where
  pub long : length tags ≡ length ss
  -- a section has the blocks that have its tag
  pub found :
      (i : Section) (b : Serial)
      → i < length ss
      → has_block b (section_in ss i) ≡ is_tag (owner b) (tag_in tags i)
  -- no two sections have one tag
  pub apart :
      (i j : Section)
      → i < length ss
      → j < length ss
      → (i ≡ j → ⊥)
      → nat_eq (tag_in tags i) (tag_in tags j) ≡ false
  -- a block that no section has has no tag
  pub others : (b : Serial) → IsAbsent b ss → owner b ≡ None

-- ---- how tags change
-- the blocks that pass the test get this tag, or none, and the others keep theirs
abbrev pub Retags : Owners → Owners → (Serial → Bool) → (Serial → Option Tag) → Type 0
Retags before after test tag =
    (b : Serial) → get nat_eq after.tags b ≡ (if test b then tag b else get nat_eq before.tags b)

-- ---- how sections change
-- the upper section has the blocks of the whole one that the lower does not have
abbrev pub Parts : SectionState → SectionState → SectionState → Type 0
Parts whole upper lower =
    (b : Serial) → has_block b upper ≡ (has_block b whole && not (has_block b lower))

-- each block of the lower section is one of the whole, or of no section
abbrev pub ComesFrom : SectionState → SectionState → List SectionState → Type 0
ComesFrom lower whole ss =
    (b : Serial) → has_block b lower ≡ true → (has_block b whole ≡ true) ⊎ IsAbsent b ss

-- whether the block is an active one of the section that vanishes
abbrev pub is_vanishing : Vanished → SectionState → Serial → Bool
is_vanishing vanished s b =
    (vanished.device && nat_eq s.active_device b)
    || (vanished.virtual_block && nat_eq s.active_virtual b)

-- the joined section has the blocks of the upper one, and those of the lower but for the ones that are gone
abbrev pub Joins : SectionState → SectionState → (Serial → Bool) → SectionState → Type 0
Joins upper lower gone joined =
    (b : Serial)
    → has_block b joined ≡ (has_block b upper || (has_block b lower && not (gone b)))

-- the section that takes over the next one's blocks has them, but for the ones that vanish
abbrev pub JoinsNext : List SectionState → Section → Vanished → Type 0
JoinsNext ss i vanished =
    let upper = section_in ss i in
    let lower = section_in ss (i + 1) in
    Joins upper lower (is_vanishing vanished lower) (section_joining vanished upper lower)

-- the active block of the kind is none of the section's once the front one is active again
abbrev pub IsGoneOnceUnsealed : Kind → SectionState → Type 0
IsGoneOnceUnsealed kind s = has_block (active_of kind s) (section_unsealing kind s) ≡ false

-- no other block of the section has the serial of the sealed one at the position
abbrev pub IsOnceIn : Position → SectionState → Type 0
IsOnceIn p s = has_block (sealed_in s p).0 (section_losing p s) ≡ false
