-- What stands behind a block, towards the tail.
use Rattle.std.specs.Prelude.{◌≡◌, true, List, [], ◌∷◌, Some, None, ◌⊎◌}
use Rattle.std.specs.List.{list_any}
use Rattle.rw_numbers.specs.Words.{Object, Serial}
use Rattle.rw_blocks.specs.declared.Kind.{Kind}
use Rattle.rw_blocks.specs.declared.Place.{Place}
use Rattle.rw_blocks.specs.Sections.{SectionState, has_serial, has_block}
use Rattle.rw_blocks.specs.State.{QueueState, row_at}
use Rattle.rw_ripq.specs.Sealed.{has_sealed, is_sealed}

-- block b comes before block c in the list
abbrev pub Before : Serial → Serial → List (Serial × Kind) → Type 0
Before b c [] = ⊥
Before b c (e ∷ es) = ((e.0 ≡ b) × (list_any (has_serial c) es ≡ true)) ⊎ Before b c es

-- in one section the sealed blocks stand behind the active ones
abbrev pub BehindIn : Serial → Serial → SectionState → Type 0
BehindIn b c s =
    (((s.active_device ≡ b) ⊎ (s.active_virtual ≡ b)) × (has_sealed c s ≡ true))
    ⊎ Before b c s.sealed

-- the sealed block c stands behind the block b
abbrev pub Behind : Serial → Serial → List SectionState → Type 0
Behind b c [] = ⊥
Behind b c (s ∷ ss) =
    BehindIn b c s
    ⊎ (((has_block b s ≡ true) × (list_any (has_sealed c) ss ≡ true)) ⊎ Behind b c ss)

-- the sealed blocks that are still there stand in the order that they had
abbrev pub KeepsOrder : QueueState → QueueState → Type 0
KeepsOrder before after =
    (b c : Serial)
    → is_sealed before b ≡ true → Behind b c before.sections
    → is_sealed after b ≡ true → is_sealed after c ≡ true → Behind b c after.sections

-- no row whose place was a sealed block left while a sealed block behind that one is still there
abbrev pub LeavesFromTail : QueueState → QueueState → Type 0
LeavesFromTail before after =
    (o : Object) (c : Serial) (r : Place)
    → row_at before o ≡ Some r → is_sealed before r.place ≡ true → Behind r.place c before.sections
    → row_at after o ≡ None → is_sealed after c ≡ true → ⊥
