-- Numbers that a list has: how many are at least one, and the first that is none of them.
use Rattle.std.proofs.Common.{◌≡◌, ℕ, ◌+◌, ◌≤◌, List, [], ◌∷◌, refl, arith, Bool, true, false, cond, nat_eq, inl, inr}
use Rattle.std.specs.Prelude.{count_by, ◌||◌, nat_lt}
use Rattle.std.specs.List.{list_any}
use Rattle.std.proofs.lemmas.List.Sums.{sum_by-cons}
use Rattle.std.proofs.lemmas.Bool.{eq-eqb, eqb-true, lt-ltb, le-ltb, cases_order}

-- whether x is at least t
abbrev pub at_least : ℕ → ℕ → Bool
at_least t x = nat_lt t (x + 1)

one_less : (t x : ℕ) → cond {A = ℕ} (at_least t x) 1 0 ≡ cond (at_least (t + 1) x) 1 0 + cond (nat_eq t x) 1 0
one_less t x =
    elim (cases_order t x) [
      | inl e ↦ rw (lt-ltb t (x + 1) (omega arith), le-ltb (t + 1) (x + 1) (omega arith), eq-eqb t x e) refl
      | inr o ↦ elim o [
        | inl lt ↦ rw (lt-ltb t (x + 1) (omega arith), lt-ltb (t + 1) (x + 1) (omega arith), other t x (λ e. omega arith)) refl
        | inr gt ↦ rw (le-ltb t (x + 1) (omega arith), le-ltb (t + 1) (x + 1) (omega arith), other t x (λ e. omega arith)) refl
      ]
    ]
  where
    other : (a b : ℕ) → (a ≡ b → ⊥) → nat_eq a b ≡ false
    other a b ne = elim (nat_eq a b) as (λ c. nat_eq a b ≡ c → nat_eq a b ≡ false) [ true ↦ λ h. absurd (ne (eqb-true a b h)) | false ↦ λ h. h ] refl

some_equal : (t : ℕ) (xs : List ℕ) → count_by (at_least t) xs ≡ count_by (at_least (t + 1)) xs + count_by (nat_eq t) xs
some_equal t [] = refl
some_equal t (x ∷ xs) =
    omega (arith, some_equal t xs, one_less t x, sum_by-cons (λ y. cond {A = ℕ} (at_least t y) 1 0) x xs, sum_by-cons (λ y. cond {A = ℕ} (at_least (t + 1) y) 1 0) x xs, sum_by-cons (λ y. cond {A = ℕ} (nat_eq t y) 1 0) x xs)

any_counts : (p : ℕ → Bool) (xs : List ℕ) → list_any p xs ≡ true → 1 ≤ count_by p xs
any_counts p [] h = absurd (cc)
any_counts p (x ∷ xs) h = step (p x) (any_counts p xs) h (sum_by-cons (λ y. cond {A = ℕ} (p y) 1 0) x xs)
  where
    step : (b : Bool) → (list_any p xs ≡ true → 1 ≤ count_by p xs) → (b || list_any p xs) ≡ true → count_by p (x ∷ xs) ≡ cond b 1 0 + count_by p xs → 1 ≤ count_by p (x ∷ xs)
    step true rest h sum = omega (arith, sum)
    step false rest h sum = omega (arith, sum, rest h)

pub fewer_above : (t : ℕ) (xs : List ℕ) → list_any (nat_eq t) xs ≡ true → count_by (at_least (t + 1)) xs + 1 ≤ count_by (at_least t) xs
fewer_above t xs h = omega (arith, some_equal t xs, any_counts (nat_eq t) xs h)

pub ruleset using_laws = (fewer_above)
