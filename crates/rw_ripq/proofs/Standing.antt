-- Where a sealed block stands, found by the section that has it.
use Rattle.std.proofs.Common.{◌≡◌, ℕ, ◌+◌, ◌≤◌, ◌<◌, List, ◌∷◌, refl, sym, ap, ◌∙◌, arith, subst, Bool, true, false, cond, length, get_or, nat_eq, inl, inr}
use Rattle.std.specs.Prelude.{Some, None, position, sum_by, count_by, remove, IsNone}
use Rattle.std.specs.List.{position_or_len}
use Rattle.std.proofs.lemmas.Bool.{ltb-true, or_parts, lt-ltb, cases_order, eq-eqb, eqb-true}
use Rattle.std.proofs.lemmas.List.Sums.{position_or_len_is, get_or-le-sum_by, sum_by-remove}
use Rattle.std.proofs.lemmas.List.Edits.{get_or-remove_below, length-remove}
use Rattle.std.proofs.lemmas.List.Quantifiers.{position-Some}
use Rattle.rw_blocks.specs.declared.Kind.{Kind}
use Rattle.rw_blocks.specs.declared.Kind.TheVariants.{Device, Virtual}
use Rattle.rw_blocks.specs.Sections.{SectionState, no_section, blocks_of, has_block, has_serial}
use Rattle.rw_blocks.specs.State.{QueueState, section_at}
use Rattle.rw_blocks.specs.Loose.{IsLoose, count_in}
use Rattle.rw_blocks.specs.Questions.{section_of}
use Rattle.rw_blocks.proofs.Tagged.{absent_from-position}
use Rattle.rw_blocks.proofs.Cited.{has-times, kinds, serials-cons, times}
use Rattle.rw_ripq.proofs.Moves.{stands-nowhere, position-none}
use Rattle.rw_ripq.specs.Sealed.{has_sealed, is_sealed}
use Rattle.rw_ripq.proofs.Basics.{by_bool}
use Rattle.rw_ripq.proofs.Places.{none-at}
use Rattle.rw_ripq.specs.Promote.{is_active_in}

-- what a test counts in a list, at two places
two_places : {X : Type 0} (f : X → ℕ) (xs : List X) (k i : ℕ) (d : X) → k < i → i < length xs → f (get_or xs k d) + f (get_or xs i d) ≤ sum_by f xs
two_places f xs k i d lt within =
    let less = length-remove xs i within in
    let same : f (get_or (remove xs i) k d) ≡ f (get_or xs k d) = ap f (get_or-remove_below xs i d k lt within) in
    omega (arith, same, sum_by-remove f xs i d within, get_or-le-sum_by f (remove xs i) k d (omega arith))

-- the only place that passes is the first
pub only_place : {X : Type 0} (p : X → Bool) (xs : List X) (i : ℕ) (d : X) → count_by p xs ≤ 1 → i < length xs → p (get_or xs i d) ≡ true → position p xs ≡ Some i
only_place p xs i d few within here =
    let one : cond {A = ℕ} (p (get_or xs i d)) 1 0 ≡ 1 = rw here refl in
    let first : position_or_len p xs ≡ i =
    position_or_len_is p xs i d (omega arith)
    (λ k lt. by_bool (p (get_or xs k d))
    (λ t.
    let too : cond {A = ℕ} (p (get_or xs k d)) 1 0 ≡ 1 = rw t refl in
    absurd (omega (arith, few, one, too, two_places (λ x. cond {A = ℕ} (p x) 1 0) xs k i d lt within)))
    (λ f. f))
    (λ _. here) in
    rw (first, lt-ltb i (length xs) within) refl

-- a block stands once in a section
pub sealed-once : (q : QueueState) (i b : ℕ) → IsLoose q → i < length q.sections → count_by (has_serial b) (section_at q i).sealed ≤ 1
sealed-once q i b loose lt =
    let s : SectionState = section_at q i in
    omega (
      arith,
      loose.distinct b,
      get_or-le-sum_by (count_in Device b) q.sections i no_section lt,
      get_or-le-sum_by (count_in Virtual b) q.sections i no_section lt,
      kinds b (blocks_of s),
      serials-cons b (s.active_device, Device) ((s.active_virtual, Virtual) ∷ s.sealed),
      serials-cons b (s.active_virtual, Virtual) s.sealed,
    )

sealed_from_block : (b : ℕ) (s : SectionState) → has_block b s ≡ false → has_sealed b s ≡ false
sealed_from_block b s h = (or_parts _ _ (or_parts _ _ h).1).1

-- ---- the section that has the block
pub section-within : (q : QueueState) (b i : ℕ) → Some i ≡ section_of q b → i < length q.sections
section-within q b i is = (position-Some (has_block b) q.sections i no_section (sym is)).0

pub section-first : (q : QueueState) (b i : ℕ) → Some i ≡ section_of q b → (k : ℕ) → k < i → has_sealed b (section_at q k) ≡ false
section-first q b i is k lt = sealed_from_block b (section_at q k) ((position-Some (has_block b) q.sections i no_section (sym is)).2 k lt)

-- no section has the block
pub nowhere : (q : QueueState) (b : ℕ) → None ≡ section_of q b → is_sealed q b ≡ false
nowhere q b is =
    stands-nowhere q b (length q.sections)
    (λ k lt. sealed_from_block b (section_at q k) (absent_from-position q.sections b (subst (λ o. IsNone o) is refl) k lt))
    (omega arith)

-- the section that has the block has it as an active one
pub nowhere-here : (q : QueueState) (b i : ℕ) → IsLoose q → Some i ≡ section_of q b → None ≡ position (has_serial b) (section_at q i).sealed → is_sealed q b ≡ false
nowhere-here q b i loose is none =
    let at = position-Some (has_block b) q.sections i no_section (sym is) in
    stands-nowhere q b (length q.sections)
    (λ k lt. elim (cases_order k i) [
      | inl e ↦ (let P : ℕ → Type 0 = λ j. has_sealed b (section_at q j) ≡ false in subst P (sym e) (position-none (has_serial b) (section_at q i).sealed none))
      | inr o ↦ elim o [
        | inl less ↦ section-first q b i is k less
        | inr more ↦ sealed_from_block b (section_at q k) (by_bool (has_block b (section_at q k))
            (λ t.
            let here : 0 < times b (section_at q i) = ltb-true 0 _ (sym (has-times b (section_at q i)) ∙ at.1) in
            let there : 0 < times b (section_at q k) = ltb-true 0 _ (sym (has-times b (section_at q k)) ∙ t) in
            absurd (omega (arith, here, there, loose.distinct b, two_places (count_in Device b) q.sections i k no_section more lt, two_places (count_in Virtual b) q.sections i k no_section more lt)))
            (λ f. f))
      ]
    ])
    (omega arith)

-- an active block is not sealed
active-counts : (q : QueueState) (i b : ℕ) → is_active_in q b i ≡ true → 1 ≤ cond (has_serial b ((section_at q i).active_device, Device)) 1 0 + cond (has_serial b ((section_at q i).active_virtual, Virtual)) 1 0
active-counts q i b active =
    let s : SectionState = section_at q i in
    let n : ℕ = cond (has_serial b (s.active_device, Device)) 1 0 in
    let m : ℕ = cond (has_serial b (s.active_virtual, Virtual)) 1 0 in
    by_bool (nat_eq b s.active_device)
    (λ t. let one : n ≡ 1 = rw (eq-eqb s.active_device b (sym (eqb-true b s.active_device t))) refl in omega (arith, one))
    (λ f.
    let shadow : nat_eq b s.active_virtual ≡ true = rw f at active in
    let one : m ≡ 1 = rw (eq-eqb s.active_virtual b (sym (eqb-true b s.active_virtual shadow))) refl in
    omega (arith, one))

active-apart : (q : QueueState) (i b : ℕ) → IsLoose q → i < length q.sections → is_active_in q b i ≡ true → count_by (has_serial b) (section_at q i).sealed ≡ 0
active-apart q i b loose lt active =
    let s : SectionState = section_at q i in
    omega (
      arith,
      active-counts q i b active,
      loose.distinct b,
      get_or-le-sum_by (count_in Device b) q.sections i no_section lt,
      get_or-le-sum_by (count_in Virtual b) q.sections i no_section lt,
      kinds b (blocks_of s),
      serials-cons b (s.active_device, Device) ((s.active_virtual, Virtual) ∷ s.sealed),
      serials-cons b (s.active_virtual, Virtual) s.sealed,
    )

pub active-unsealed : (q : QueueState) (b i : ℕ) → IsLoose q → Some i ≡ section_of q b → is_active_in q b i ≡ true → is_sealed q b ≡ false
active-unsealed q b i loose is active =
    let es : List (ℕ × Kind) = (section_at q i).sealed in
    nowhere-here q b i loose is
    (none-at (has_serial b) es (length es) (0, Device)
    (λ k lt.
    by_bool (has_serial b (get_or es k (0, Device)))
    (λ t.
    let one : cond {A = ℕ} (has_serial b (get_or es k (0, Device))) 1 0 ≡ 1 = rw t refl in
    absurd (omega (arith, one, active-apart q i b loose (section-within q b i is) active, get_or-le-sum_by (λ e. cond {A = ℕ} (has_serial b e) 1 0) es k (0, Device) lt)))
    (λ f. f))
    (omega arith))
