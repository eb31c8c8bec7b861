-- The last sealed block, by its section and its position.
use Rattle.std.proofs.Common.{◌≡◌, ℕ, zero, suc, ◌+◌, ◌<◌, List, [], ◌∷◌, refl, sym, ◌∙◌, arith, length, get_or}
use Rattle.std.specs.Prelude.{Option, Some, None}
use Rattle.rw_blocks.specs.declared.Kind.{Kind}
use Rattle.rw_blocks.specs.declared.Kind.TheVariants.{Device}
use Rattle.rw_blocks.specs.Sections.{SectionState, no_section}
use Rattle.rw_blocks.specs.State.{QueueState, section_at, sealed_block}
use Rattle.rw_blocks.specs.Questions.{last_or, last_from, last_block, IsLastSealed}

last_or-end : (es : List (ℕ × Kind)) (p : ℕ) (so_far : Option (ℕ × Kind)) → p + 1 ≡ length es → last_or so_far es ≡ Some (get_or es p (0, Device))
last_or-end [] p so_far end = absurd (omega arith)
last_or-end (e ∷ []) zero so_far end = refl
last_or-end (e ∷ (f ∷ es)) zero so_far end = absurd (omega arith)
last_or-end (e ∷ es) (suc p) so_far end = last_or-end es p (Some e) (omega arith)

last_or-empty : (es : List (ℕ × Kind)) (so_far : Option (ℕ × Kind)) → es ≡ [] → last_or so_far es ≡ so_far
last_or-empty es so_far none = rw none refl

last_from-quiet : (ss : List SectionState) (so_far : Option (ℕ × Kind)) → ((j : ℕ) → j < length ss → (get_or ss j no_section).sealed ≡ []) → last_from so_far ss ≡ so_far
last_from-quiet [] so_far quiet = refl
last_from-quiet (s ∷ ss) so_far quiet =
    last_from-quiet ss (last_or so_far s.sealed) (λ j lt. quiet (suc j) (omega arith)) ∙ last_or-empty s.sealed so_far (quiet 0 (omega arith))

last_from-at : (ss : List SectionState) (i p : ℕ) (so_far : Option (ℕ × Kind)) → i < length ss → p + 1 ≡ length (get_or ss i no_section).sealed
    → ((j : ℕ) → i < j → j < length ss → (get_or ss j no_section).sealed ≡ [])
    → last_from so_far ss ≡ Some (get_or (get_or ss i no_section).sealed p (0, Device))
last_from-at [] i p so_far within end quiet = absurd (omega arith)
last_from-at (s ∷ ss) zero p so_far within end quiet =
    last_from-quiet ss (last_or so_far s.sealed) (λ j lt. quiet (suc j) (omega arith) (omega arith)) ∙ last_or-end s.sealed p so_far end
last_from-at (s ∷ ss) (suc i) p so_far within end quiet =
    last_from-at ss i p (last_or so_far s.sealed) (omega arith) end (λ j lt lt'. quiet (suc j) (omega arith) (omega arith))

pub last_block-at : (q : QueueState) (i p : ℕ) → IsLastSealed q i p → Some (sealed_block q i p) ≡ last_block q
last_block-at q i p is = sym (last_from-at q.sections i p None is.there is.last is.nothing_behind)

pub last_block-none : (q : QueueState) → ((j : ℕ) → j < length q.sections → (section_at q j).sealed ≡ []) → None ≡ last_block q
last_block-none q quiet = sym (last_from-quiet q.sections None quiet)
