-- Where a sealed block is found, and whether it is an emptied virtual one.
use Rattle.std.proofs.Common.{◌≡◌, ℕ, ◌≤◌, ◌<◌, refl, sym, ap, ◌∙◌, arith, Bool, true, false, length, get_or, nat_eq}
use Rattle.std.specs.Prelude.{Some, ◌&&◌, sum_by, slice_get, not}
use Rattle.std.specs.List.{list_any}
use Rattle.std.proofs.lemmas.Bool.{eq-eqb, and_right}
use Rattle.std.proofs.lemmas.List.Sums.{get_or-le-sum_by}
use Rattle.rw_blocks.specs.declared.Kind.{Kind}
use Rattle.rw_blocks.specs.declared.Kind.TheVariants.{Device, Virtual}
use Rattle.rw_blocks.specs.Sections.{no_section, is_kind, is_virtual, is_block}
use Rattle.rw_blocks.specs.State.{QueueState, section_at}
use Rattle.rw_blocks.specs.Sums.{rows_placed}
use Rattle.rw_blocks.specs.Loose.{IsLoose, is_sealed_virtual}
use Rattle.rw_ripq.specs.Sealed.{is_sealed, sealed_section, sealed_position, is_emptied}
use Rattle.rw_ripq.proofs.Basics.{by_bool, true_not_false}
use Rattle.rw_ripq.proofs.Measures.{sealed-there, sealed-virtual-there, virtual-counts, any-counts}
use Rattle.rw_ripq.proofs.Falls.{sealed_at, counted}
use Rattle.rw_ripq.proofs.Places.{get-at, any-at, any_get}
use Rattle.rw_blocks.specs.Questions.{is_placed}

pub and-false : (t u : Bool) → t ≡ false → (t && u) ≡ false
and-false t u h = rw h refl

and-true : (t u : Bool) → u ≡ true → t ≡ (t && u)
and-true true u h = sym h
and-true false u h = refl

-- a block that is not sealed is no emptied one
pub gone-not-emptied : (q : QueueState) (b : ℕ) → is_sealed q b ≡ false → is_emptied q b ≡ false
gone-not-emptied q b gone =
    and-false (is_sealed_virtual q b) _
    (by_bool (is_sealed_virtual q b) (λ t. true_not_false (is_sealed q b) (sealed-virtual-there q b t) gone) (λ f. f))

-- ---- the kind of the block that is found
virtual-there : (K : Kind) (q : QueueState) (b i : ℕ) (e : ℕ × Kind) → IsLoose q → i < length q.sections → e.0 ≡ b → e.1 ≡ K → list_any (is_block K b) (section_at q i).sealed ≡ true
    → is_sealed_virtual q b ≡ is_virtual K
virtual-there Virtual q b i e loose within serial kind any = any_get (λ s. list_any (is_block Virtual b) s.sealed) q.sections i no_section within any
virtual-there Device q b i e loose within serial kind any =
    by_bool (is_sealed_virtual q b)
    (λ t.
    let here : 1 ≤ sealed_at (b, Device) (section_at q i) = any-counts (is_block Device b) (section_at q i).sealed any in
    let sum : sealed_at (b, Device) (section_at q i) ≤ sum_by (sealed_at (b, Device)) q.sections = get_or-le-sum_by (sealed_at (b, Device)) q.sections i no_section within in
    absurd (omega (arith, (counted q (b, Device) (omega arith)).1, virtual-counts q b t, loose.distinct b)))
    (λ f. f)

pub same-kind : (K : Kind) → is_kind K K ≡ true
same-kind Device = refl
same-kind Virtual = refl

not_false : (t : Bool) → not t ≡ false → t ≡ true
not_false true h = refl
not_false false h = absurd (cc)

not_true : (t : Bool) → not t ≡ true → t ≡ false
not_true true h = absurd (cc)
not_true false h = refl

-- a sealed block that is no row's place is an emptied one where its kind is virtual
pub emptied-at : (q : QueueState) (b i p : ℕ) (e : ℕ × Kind) → IsLoose q → is_placed q b ≡ false → is_sealed q b ≡ true → i ≡ sealed_section q b → p ≡ sealed_position q b
    → slice_get (section_at q i).sealed p ≡ Some e → is_virtual e.1 ≡ is_emptied q b
emptied-at q b i p e loose none sealed at_section at_position is =
    let there = sealed-there q b sealed in
    let found = get-at (λ _. true) (section_at q i).sealed p (0, Device) e is in
    let serial : e.0 ≡ b = ap (λ x. x.0) (sym found.1) ∙ ap (λ i. (get_or (section_at q i).sealed p (0, Device)).0) at_section ∙ ap (λ p. (get_or (section_at q (sealed_section q b)).sealed p (0, Device)).0) at_position ∙ there.2 in
    let any : list_any (is_block e.1 b) (section_at q i).sealed ≡ true = any-at (is_block e.1 b) (section_at q i).sealed p e is (rw (eq-eqb e.0 b serial) (same-kind e.1)) in
    sym (virtual-there e.1 q b i e loose (omega (arith, there.0, at_section)) serial refl any) ∙ and-true (is_sealed_virtual q b) _ (not_false (nat_eq (length (rows_placed q b)) 0) none)

-- a block that is some row's place is no emptied one
pub placed-not-emptied : (q : QueueState) (b : ℕ) → is_placed q b ≡ true → false ≡ is_emptied q b
placed-not-emptied q b some =
    let none : nat_eq (length (rows_placed q b)) 0 ≡ false = not_true (nat_eq (length (rows_placed q b)) 0) some in
    sym (and_right (is_sealed_virtual q b) _ none)
