-- Blocks of a kind: whether they are there, and what they hold.
use Rattle.std.proofs.Common.{◌≡◌, ℕ, ◌≤◌, ◌<◌, List, [], ◌∷◌, refl, arith, Bool, true, false, cond, inl, inr, ap, ◌∙◌, length}
use Rattle.std.specs.Prelude.{sum_by, ◌||◌}
use Rattle.std.specs.List.{list_any}
use Rattle.std.proofs.lemmas.List.Sums.{sum_by-cons}
use Rattle.std.proofs.lemmas.Bool.{cases_lt}
use Rattle.rw_blocks.specs.declared.Kind.{Kind}
use Rattle.rw_blocks.specs.declared.Kind.TheVariants.{Device, Virtual}
use Rattle.rw_blocks.specs.Sections.{blocks_of, active_of, is_block}
use Rattle.rw_blocks.specs.State.{QueueState, section_at}
use Rattle.rw_blocks.proofs.Kept.{active-once}
use Rattle.rw_blocks.specs.Sums.{has_kind, bytes_held, fill}
use Rattle.rw_blocks.specs.Loose.{IsLoose, count, count_in}

or_true : (b : Bool) → (b || true) ≡ true
or_true true = refl
or_true false = refl

-- a test that passes where a number is not 0, over a list
some_passes : {X : Type 0} (n : X → ℕ) (p : X → Bool) → ((x : X) → 1 ≤ n x → p x ≡ true) → (xs : List X) → 1 ≤ sum_by n xs → list_any p xs ≡ true
some_passes n p if_some [] some = absurd (omega arith)
some_passes n p if_some (x ∷ xs) some =
    elim (cases_lt 0 (n x)) [
      | inl lt ↦ rw (if_some x (omega arith)) refl
      | inr le ↦ rw (some_passes n p if_some xs (omega (arith, sum_by-cons n x xs))) (or_true (p x))
    ]

none_passes : {X : Type 0} (n : X → ℕ) (p : X → Bool) → ((x : X) → n x ≡ 0 → p x ≡ false) → (xs : List X) → sum_by n xs ≡ 0 → list_any p xs ≡ false
none_passes n p if_none [] none = refl
none_passes n p if_none (x ∷ xs) none =
    rw (if_none x (omega (arith, sum_by-cons n x xs)), none_passes n p if_none xs (omega (arith, sum_by-cons n x xs))) refl

one_true : (b : Bool) → 1 ≤ cond b 1 0 → b ≡ true
one_true true some = refl
one_true false some = absurd (omega arith)

zero_false : (b : Bool) → cond {A = ℕ} b 1 0 ≡ 0 → b ≡ false
zero_false true none = absurd (omega arith)
zero_false false none = refl

pub has_kind-some : (kind : Kind) (q : QueueState) (b : ℕ) → 1 ≤ count kind q b → has_kind kind q b ≡ true
has_kind-some kind q b =
    some_passes (count_in kind b) (λ s. list_any (is_block kind b) (blocks_of s))
    (λ s. some_passes (λ e. cond (is_block kind b e) 1 0) (is_block kind b) (λ e. one_true (is_block kind b e)) (blocks_of s))
    q.sections

pub has_kind-none : (kind : Kind) (q : QueueState) (b : ℕ) → count kind q b ≡ 0 → has_kind kind q b ≡ false
has_kind-none kind q b =
    none_passes (count_in kind b) (λ s. list_any (is_block kind b) (blocks_of s))
    (λ s. none_passes (λ e. cond (is_block kind b e) 1 0) (is_block kind b) (λ e. zero_false (is_block kind b e)) (blocks_of s))
    q.sections

pub fill-of : (q : QueueState) (kind : Kind) (b : ℕ) → IsLoose q → count kind q b ≡ 1 → fill q b ≡ bytes_held kind q b
fill-of q Device b loose once = rw (has_kind-some Device q b (omega arith)) refl
fill-of q Virtual b loose once =
    rw (has_kind-none Device q b (omega (arith, loose.distinct b)), has_kind-some Virtual q b (omega arith)) refl

pub fill-active : (q : QueueState) (kind : Kind) (i b : ℕ) → IsLoose q → i < length q.sections → b ≡ active_of kind (section_at q i) → fill q b ≡ bytes_held kind q b
fill-active q kind i b loose within is = fill-of q kind b loose (ap (count kind q) is ∙ active-once kind q i loose within)

pub ruleset fill_laws = (fill-of)
