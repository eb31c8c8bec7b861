-- The slots of times in a wheel.
use Rattle.std.proofs.Common.{◌≡◌, ℕ, zero, suc, ◌+◌, ◌/◌, ◌%◌, ◌<◌, ◌≤◌, Bool, true, false, cond, refl, sym, ◌∙◌, ap, arith}
use Rattle.std.specs.Prelude.{nat_eq}
use Rattle.std.proofs.lemmas.Bool.Decides.{nat_tests}
use Rattle.rw_pending.specs.Wheel.{slot_of}

-- a later time has no earlier slot
pub slot_rises : (n base s t : ℕ) → base ≤ s → s ≤ t → slot_of n base s ≤ slot_of n base t
unfolding slot_of
slot_rises zero base s t l m = omega arith
slot_rises (suc n) base s t l m = go (nat_eq (s / 256) (base / 256)) (nat_eq (t / 256) (base / 256)) refl refl (slot_rises n (base / 256) (s / 256) (t / 256) (omega arith) (omega arith))
  where
    go : (a b : Bool) → nat_eq (s / 256) (base / 256) ≡ a → nat_eq (t / 256) (base / 256) ≡ b → slot_of n (base / 256) (s / 256) ≤ slot_of n (base / 256) (t / 256)
        → cond a (s % 256) (256 + slot_of n (base / 256) (s / 256)) ≤ cond b (t % 256) (256 + slot_of n (base / 256) (t / 256))
    go true true sa tb up =
        let u : s / 256 ≡ base / 256 = grind (arith, nat_tests) in
        let v : t / 256 ≡ base / 256 = grind (arith, nat_tests) in
        omega arith
    go true false sa tb up = omega arith
    go false true sa tb up =
        let u : s / 256 ≡ base / 256 → ⊥ = grind (arith, nat_tests) in
        let v : t / 256 ≡ base / 256 = grind (arith, nat_tests) in
        absurd (u (omega arith))
    go false false sa tb up = omega arith

-- where the wheel comes to a time, those of other slots keep theirs
pub slot_kept : (n base now t : ℕ) → base ≤ now → now ≤ t → (slot_of n base t ≡ slot_of n base now → ⊥) → slot_of n now t ≡ slot_of n base t
unfolding slot_of
slot_kept zero base now t l m other = refl
slot_kept (suc n) base now t l m other = go (nat_eq (t / 256) (now / 256)) (nat_eq (t / 256) (base / 256)) (nat_eq (now / 256) (base / 256)) refl refl refl other (slot_kept n (base / 256) (now / 256) (t / 256) (omega arith) (omega arith))
  where
    go : (a b c : Bool) → nat_eq (t / 256) (now / 256) ≡ a → nat_eq (t / 256) (base / 256) ≡ b → nat_eq (now / 256) (base / 256) ≡ c
        → (cond b (t % 256) (256 + slot_of n (base / 256) (t / 256)) ≡ cond c (now % 256) (256 + slot_of n (base / 256) (now / 256)) → ⊥)
        → ((slot_of n (base / 256) (t / 256) ≡ slot_of n (base / 256) (now / 256) → ⊥) → slot_of n (now / 256) (t / 256) ≡ slot_of n (base / 256) (t / 256))
        → cond a (t % 256) (256 + slot_of n (now / 256) (t / 256)) ≡ cond b (t % 256) (256 + slot_of n (base / 256) (t / 256))
    go true true c ta tb nc ne ih = refl
    go false true c ta tb nc ne ih =
        let u : t / 256 ≡ now / 256 → ⊥ = grind (arith, nat_tests) in
        let v : t / 256 ≡ base / 256 = grind (arith, nat_tests) in
        absurd (u (omega arith))
    go true false true ta tb nc ne ih =
        let u : t / 256 ≡ now / 256 = grind (arith, nat_tests) in
        let v : t / 256 ≡ base / 256 → ⊥ = grind (arith, nat_tests) in
        let w : now / 256 ≡ base / 256 = grind (arith, nat_tests) in
        absurd (v (u ∙ w))
    go true false false ta tb nc ne ih =
        let u : t / 256 ≡ now / 256 = grind (arith, nat_tests) in
        absurd (ne (ap (λ q. 256 + slot_of n (base / 256) q) u))
    go false false true ta tb nc ne ih =
        let w : now / 256 ≡ base / 256 = grind (arith, nat_tests) in
        ap (λ q. 256 + slot_of n q (t / 256)) w
    go false false false ta tb nc ne ih = ap (λ k. 256 + k) (ih (λ e. ne (ap (λ k. 256 + k) e)))

pub slot_here : (n base t : ℕ) → t / 256 ≡ base / 256 → slot_of (suc n) base t ≡ t % 256
unfolding slot_of
slot_here n base t e = go (nat_eq (t / 256) (base / 256)) refl
  where
    go : (a : Bool) → nat_eq (t / 256) (base / 256) ≡ a → cond a (t % 256) (256 + slot_of n (base / 256) (t / 256)) ≡ t % 256
    go true h = refl
    go false h = let u : t / 256 ≡ base / 256 → ⊥ = grind (arith, nat_tests) in absurd (u e)

pub slot_above : (n base t : ℕ) → (t / 256 ≡ base / 256 → ⊥) → slot_of (suc n) base t ≡ 256 + slot_of n (base / 256) (t / 256)
unfolding slot_of
slot_above n base t f = go (nat_eq (t / 256) (base / 256)) refl
  where
    go : (a : Bool) → nat_eq (t / 256) (base / 256) ≡ a → cond a (t % 256) (256 + slot_of n (base / 256) (t / 256)) ≡ 256 + slot_of n (base / 256) (t / 256)
    go true h = let u : t / 256 ≡ base / 256 = grind (arith, nat_tests) in absurd (f u)
    go false h = refl

-- the slot by whole quotients

pub at_0 : (base t : ℕ) → t / 256 ≡ base / 256 → slot_of 5 base t ≡ t % 256
at_0 base t e = slot_here 4 base t e

pub at_1 : (base t : ℕ) → (t / 256 ≡ base / 256 → ⊥) → t / 65536 ≡ base / 65536 → slot_of 5 base t ≡ 256 + t / 256 % 256
at_1 base t f e = slot_above 4 base t f ∙ ap (λ k. 256 + k) (slot_here 3 (base / 256) (t / 256) (omega arith))

pub at_2 : (base t : ℕ) → (t / 256 ≡ base / 256 → ⊥) → (t / 65536 ≡ base / 65536 → ⊥) → t / 16777216 ≡ base / 16777216 → slot_of 5 base t ≡ 512 + t / 65536 % 256
at_2 base t f g e =
    let two : t / 256 / 256 ≡ t / 65536 = omega arith in
    let low : base / 256 / 256 ≡ base / 65536 = omega arith in
    let up = slot_above 3 (base / 256) (t / 256) (λ h. g (sym two ∙ h ∙ low)) in
    let here = slot_here 2 (base / 256 / 256) (t / 256 / 256) (omega arith) in
    omega (arith, slot_above 4 base t f, up, here, two)

pub at_3 : (base t : ℕ) → (t / 256 ≡ base / 256 → ⊥) → (t / 65536 ≡ base / 65536 → ⊥) → (t / 16777216 ≡ base / 16777216 → ⊥) → t / 4294967296 ≡ base / 4294967296
    → slot_of 5 base t ≡ 768 + t / 16777216 % 256
at_3 base t f g h e =
    let two : t / 256 / 256 ≡ t / 65536 = omega arith in
    let low : base / 256 / 256 ≡ base / 65536 = omega arith in
    let three : t / 256 / 256 / 256 ≡ t / 16777216 = omega arith in
    let also : base / 256 / 256 / 256 ≡ base / 16777216 = omega arith in
    let up = slot_above 3 (base / 256) (t / 256) (λ k. g (sym two ∙ k ∙ low)) in
    let next = slot_above 2 (base / 256 / 256) (t / 256 / 256) (λ k. h (sym three ∙ k ∙ also)) in
    let here = slot_here 1 (base / 256 / 256 / 256) (t / 256 / 256 / 256) (omega arith) in
    omega (arith, slot_above 4 base t f, up, next, here, three)

pub at_4 : (base t : ℕ) → base ≤ t → t < 1099511627776 → (t / 256 ≡ base / 256 → ⊥) → (t / 65536 ≡ base / 65536 → ⊥) → (t / 16777216 ≡ base / 16777216 → ⊥) → (t / 4294967296 ≡ base / 4294967296 → ⊥)
    → slot_of 5 base t ≡ 1024 + t / 4294967296
at_4 base t l m f g h j =
    let two : t / 256 / 256 ≡ t / 65536 = omega arith in
    let low : base / 256 / 256 ≡ base / 65536 = omega arith in
    let three : t / 256 / 256 / 256 ≡ t / 16777216 = omega arith in
    let also : base / 256 / 256 / 256 ≡ base / 16777216 = omega arith in
    let four : t / 256 / 256 / 256 / 256 ≡ t / 4294967296 = omega arith in
    let last : base / 256 / 256 / 256 / 256 ≡ base / 4294967296 = omega arith in
    let up = slot_above 3 (base / 256) (t / 256) (λ k. g (sym two ∙ k ∙ low)) in
    let next = slot_above 2 (base / 256 / 256) (t / 256 / 256) (λ k. h (sym three ∙ k ∙ also)) in
    let top = slot_above 1 (base / 256 / 256 / 256) (t / 256 / 256 / 256) (λ k. j (sym four ∙ k ∙ last)) in
    let here = slot_here 0 (base / 256 / 256 / 256 / 256) (t / 256 / 256 / 256 / 256) (omega arith) in
    omega (arith, slot_above 4 base t f, up, next, top, here, four)
