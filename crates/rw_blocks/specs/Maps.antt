-- Maps of blocks by their serials.
use Rattle.std.specs.Prelude.{◌≡◌, Option, nat_eq, if◌then◌else◌}
use Rattle.rw_numbers.specs.Words.{Serial}

-- the block has this from now on, or nothing, and the others have what they had
abbrev pub Sets
    : {X : Type 0} → (Serial → Option X) → (Serial → Option X) → Serial → Option X → Type 0
Sets before after b x = (c : Serial) → after c ≡ (if nat_eq b c then x else before c)
