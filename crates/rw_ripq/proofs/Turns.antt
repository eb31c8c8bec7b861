-- A turn that evicts a device block lowers the measure.
use Rattle.std.proofs.Common.{◌≡◌, ℕ, ◌+◌, ◌≤◌, ◌<◌, List, [], ◌∷◌, refl, ap, ◌∙◌, arith, Bool, true, false, cond, length, get_or, nat_eq}
use Rattle.std.specs.Prelude.{Some, sum_by, remove, ◌&&◌, filter}
use Rattle.std.specs.List.{list_any, AllByRecursion}
use Rattle.std.specs.List.Sorted.{IsStrictlySortedBy}
use Rattle.std.specs.Ordering.{nat_cmp, ordering_reverse}
use Rattle.std.specs.declared.cmp.Ordering.TheVariants.{Less, Greater}
use Rattle.std.specs.Cmp.{nat_cmp_total, tied_itself}
use Rattle.std.specs.Map.{keys_of, lookup}
use Rattle.std.specs.BTreeMap.{insert_entry, is_at as is_key}
use Rattle.std.proofs.lemmas.Bool.{eq-eqb, ne_eqb}
use Rattle.std.proofs.lemmas.Map.Keys.{sorted_head, sorted_tail}
use Rattle.std.proofs.lemmas.List.Sums.{sum_by-cons, sum_by-set, sum_by-remove, get_or-le-sum_by}
use Rattle.rw_blocks.proofs.Cited.{at_block, count_in-cons, one}
use Rattle.rw_blocks.specs.Loose.{IsLoose, count_in}
use Rattle.rw_blocks.specs.Changes.{section_sealing}
use Rattle.rw_blocks.specs.Primitives.{after_seal, after_take_out}
use Rattle.rw_blocks.specs.Sections.{SectionState, no_section, has_serial, is_kind}
use Rattle.rw_blocks.specs.State.{QueueState, section_at}
use Rattle.rw_blocks.specs.declared.Kind.{Kind}
use Rattle.rw_blocks.specs.declared.Kind.TheVariants.{Device, Virtual}
use Rattle.rw_blocks.specs.declared.Place.{Place}
use Rattle.rw_ripq.proofs.Basics.{by_bool}
use Rattle.rw_ripq.specs.Sealed.{has_sealed}
use Rattle.rw_ripq.specs.Victim.{in_sealed, sealed_count}

-- ---- sums beside each other
pub sum-above : {X : Type 0} (f g h : X → ℕ) (xs : List X) → ((x : X) → h x ≤ f x + g x) → sum_by h xs ≤ sum_by f xs + sum_by g xs
sum-above f g h [] le = omega arith
sum-above f g h (x ∷ xs) le = omega (arith, sum_by-cons f x xs, sum_by-cons g x xs, sum_by-cons h x xs, le x, sum-above f g h xs le)

sum-below : {X : Type 0} (f g h : X → ℕ) (xs : List X) → ((x : X) → f x + g x ≤ h x) → sum_by f xs + sum_by g xs ≤ sum_by h xs
sum-below f g h [] le = omega arith
sum-below f g h (x ∷ xs) le = omega (arith, sum_by-cons f x xs, sum_by-cons g x xs, sum_by-cons h x xs, le x, sum-below f g h xs le)

-- ---- how many sealed blocks have the serial

none-sum : {X : Type 0} (p : X → Bool) (f : X → ℕ) (xs : List X) → ((x : X) → p x ≡ false → f x ≡ 0) → list_any p xs ≡ false → sum_by f xs ≡ 0
none-sum p f [] z h = refl
none-sum p f (x ∷ xs) z h =
    by_bool (p x)
    (λ t. absurd (clash (rw t at h)))
    (λ g. omega (arith, sum_by-cons f x xs, z x g, none-sum p f xs z (rw g at h)))
  where
    clash : true ≡ false → ⊥
    clash e = cc

pub sealed_count-there : (q : QueueState) (b : ℕ) → 1 ≤ sealed_count b q → list_any (has_sealed b) q.sections ≡ true
sealed_count-there q b some =
    by_bool (list_any (has_sealed b) q.sections)
    (λ t. t)
    (λ f. absurd (omega (arith, some, none-sum (has_sealed b) (in_sealed b) q.sections (λ s g. none-sum (has_serial b) (λ e. cond (has_serial b e) 1 0) s.sealed (λ e k. rw k refl) g) f)))

pub sealed_count-after_seal : (q : QueueState) (i : ℕ) (K : Kind) (b : ℕ) → i < length q.sections → sealed_count b q ≤ sealed_count b (after_seal q i K)
sealed_count-after_seal q i Device b within =
    let s : SectionState = section_at q i in
    omega (arith, sum_by-set (in_sealed b) q.sections i (section_sealing Device q.next s) no_section within, sum_by-cons (λ e. cond (has_serial b e) 1 0) (s.active_device, Device) s.sealed)
sealed_count-after_seal q i Virtual b within =
    let s : SectionState = section_at q i in
    omega (arith, sum_by-set (in_sealed b) q.sections i (section_sealing Virtual q.next s) no_section within, sum_by-cons (λ e. cond (has_serial b e) 1 0) (s.active_virtual, Virtual) s.sealed)

pub sealed_count-after_take_out : (q : QueueState) (i p b : ℕ) → i < length q.sections → p < length (section_at q i).sealed → ((get_or (section_at q i).sealed p (0, Device)).0 ≡ b → ⊥) → sealed_count b (after_take_out q i p) ≡ sealed_count b q
sealed_count-after_take_out q i p b within inside apart =
    let s : SectionState = section_at q i in
    let t : SectionState = record s { sealed = remove s.sealed p } in
    let e : ℕ × Kind = get_or s.sealed p (0, Device) in
    let n : ℕ = cond (has_serial b e) 1 0 in
    let z : n ≡ 0 = rw (ne_eqb e.0 b apart) refl in
    omega (arith, sum_by-set (in_sealed b) q.sections i t no_section within, sum_by-remove (λ e. cond (has_serial b e) 1 0) s.sealed p (0, Device) inside, z)

-- ---- an active device block is not a sealed one
pub either-kind : (t : Bool) (K : Kind) → cond t 1 0 ≤ cond (t && is_kind Device K) 1 0 + cond (t && is_kind Virtual K) 1 0
either-kind true Device = omega arith
either-kind true Virtual = omega arith
either-kind false K = omega arith

and-true : (t : Bool) → ◌≡◌ {A = ℕ} (cond (t && true) 1 0) (cond t 1 0)
and-true true = refl
and-true false = refl

abbrev pub acts : ℕ → SectionState → ℕ
acts b s = cond (nat_eq s.active_device b) 1 0

pub counts-all : (b : ℕ) (s : SectionState) → acts b s + in_sealed b s ≤ count_in Device b s + count_in Virtual b s
counts-all b s =
    let a : one Device s.active_device Device b ≡ acts b s = and-true (nat_eq s.active_device b) in
    omega (arith, a, count_in-cons Device b s, count_in-cons Virtual b s, sum-above (at_block Device b) (at_block Virtual b) (λ e. cond (has_serial b e) 1 0) s.sealed (λ e. either-kind (has_serial b e) e.1))

pub active-not-sealed : (q : QueueState) (i b : ℕ) → IsLoose q → i < length q.sections → 1 ≤ sealed_count b q → (section_at q i).active_device ≡ b → ⊥
active-not-sealed q i b loose within some e =
    let s : SectionState = section_at q i in
    let n : ℕ = acts b s in
    let a : n ≡ 1 = rw (eq-eqb s.active_device b e) refl in
    let there : n ≤ sum_by (acts b) q.sections = get_or-le-sum_by (acts b) q.sections i no_section within in
    let both : SectionState → ℕ = λ s. acts b s + in_sealed b s in
    let x : sum_by (acts b) q.sections + sum_by (in_sealed b) q.sections ≤ sum_by both q.sections = sum-below (acts b) (in_sealed b) both q.sections (λ s. omega arith) in
    let y : sum_by both q.sections ≤ sum_by (count_in Device b) q.sections + sum_by (count_in Virtual b) q.sections = sum-above (count_in Device b) (count_in Virtual b) both q.sections (counts-all b) in
    omega (arith, a, there, x, y, some, loose.distinct b)

-- ---- the objects that are left
abbrev Test : Type 0
Test = ℕ × Place → Bool

pub first_above : (p : Test) (es : List (ℕ × Place)) (k o : ℕ) (os : List ℕ) → AllByRecursion (λ y. nat_cmp k y ≡ Less) (keys_of es) → keys_of (filter p es) ≡ o ∷ os → nat_cmp k o ≡ Less
first_above p [] k o os all is = absurd (cc)
first_above p (e ∷ es) k o os all is =
    by_bool (p e)
    (λ h. let same : e.0 ∷ keys_of (filter p es) ≡ o ∷ os = rw h at is in let x : e.0 ≡ o = cc in rw (← x) all.0)
    (λ h. first_above p es k o os all.1 (rw h at is))

-- the first of those that pass is written with a value that does not pass
pub others-left : (p : Test) (es : List (ℕ × Place)) (o : ℕ) (os : List ℕ) (new : Place) → IsStrictlySortedBy nat_cmp (keys_of es) → keys_of (filter p es) ≡ o ∷ os → p (o, new) ≡ false
    → keys_of (filter p (insert_entry nat_cmp es o new)) ≡ os
others-left p [] o os new s is fails = absurd (cc)
others-left p (e ∷ es) o os new s is fails =
    by_bool (p e)
    (λ h.
    let same : e.0 ∷ keys_of (filter p es) ≡ o ∷ os = rw h at is in
    let x : o ≡ e.0 = cc in
    let y : keys_of (filter p es) ≡ os = cc in
    let fails' : p (e.0, new) ≡ false = rw x at fails in
    rw (x, tied_itself nat_cmp_total e.0, fails') y)
    (λ h.
    let later : keys_of (filter p es) ≡ o ∷ os = rw h at is in
    let above : nat_cmp o e.0 ≡ Greater = nat_cmp_total.antisymm o e.0 ∙ ap ordering_reverse (first_above p es e.0 o os (sorted_head nat_cmp e.0 (keys_of es) s) later) in
    rw (above, h) (others-left p es o os new (sorted_tail nat_cmp e.0 (keys_of es) s) later fails))

-- the first of those that pass is there, and passes
pub first-there : (p : Test) (es : List (ℕ × Place)) (o : ℕ) (os : List ℕ) → IsStrictlySortedBy nat_cmp (keys_of es) → keys_of (filter p es) ≡ o ∷ os
    → (r : Place) × (lookup (is_key (nat_cmp o)) es ≡ Some r) × (p (o, r) ≡ true)
first-there p [] o os s is = absurd (cc)
first-there p (e ∷ es) o os s is =
    by_bool (p e)
    (λ h.
    let same : e.0 ∷ keys_of (filter p es) ≡ o ∷ os = rw h at is in
    let x : o ≡ e.0 = cc in
    (e.1, rw (x, tied_itself nat_cmp_total e.0) refl, rw x h))
    (λ h.
    let later : keys_of (filter p es) ≡ o ∷ os = rw h at is in
    let above : nat_cmp o e.0 ≡ Greater = nat_cmp_total.antisymm o e.0 ∙ ap ordering_reverse (first_above p es e.0 o os (sorted_head nat_cmp e.0 (keys_of es) s) later) in
    let r = first-there p es o os (sorted_tail nat_cmp e.0 (keys_of es) s) later in
    (r.0, rw above r.1, r.2))
