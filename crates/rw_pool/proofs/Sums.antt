-- Sums of f 0 .. f (n - 1), and sums of such sums.
use Rattle.std.proofs.Common.{◌≡◌, ℕ, zero, suc, ◌+◌, ◌<◌, refl, sym, ap, ◌∙◌, arith, inl, inr}
use Rattle.std.specs.Prelude.{◌⊎◌}
use Rattle.std.proofs.lemmas.Bool.{cases_eq}
use Rattle.rw_pool.specs.Sums.{sum_below}

pub total_same : (n : ℕ) (f k : ℕ → ℕ) → ((i : ℕ) → i < n → f i ≡ k i) → sum_below n f ≡ sum_below n k
total_same zero f k e = refl
total_same (suc n) f k e = let last : f n ≡ k n = e n (omega arith) in let rest : sum_below n f ≡ sum_below n k = total_same n f k (λ i l. e i (omega arith)) in omega arith

pub total_add : (n : ℕ) (f k : ℕ → ℕ) → sum_below n (λ i. f i + k i) ≡ sum_below n f + sum_below n k
total_add zero f k = refl
total_add (suc n) f k = omega (arith, total_add n f k)

pub total_zero : (n : ℕ) (f : ℕ → ℕ) → ((i : ℕ) → i < n → f i ≡ 0) → sum_below n f ≡ 0
total_zero zero f e = refl
total_zero (suc n) f e = let a : f n ≡ 0 = e n (omega arith) in let b : sum_below n f ≡ 0 = total_zero n f (λ i l. e i (omega arith)) in omega arith

-- a sum in which one place alone counts
pub total_one : (n q : ℕ) (f : ℕ → ℕ) → q < n → ((r : ℕ) → r < n → (r ≡ q → ⊥) → f r ≡ 0) → sum_below n f ≡ f q
total_one zero q f h none = absurd (omega arith)
total_one (suc n) q f h none = go (cases_eq n q) (total_one n q f)
  where
    go : (n ≡ q) ⊎ (n ≡ q → ⊥) → (q < n → ((r : ℕ) → r < n → (r ≡ q → ⊥) → f r ≡ 0) → sum_below n f ≡ f q) → sum_below n f + f n ≡ f q
    go (inl k) ih = let a : sum_below n f ≡ 0 = total_zero n f (λ i l. none i (omega arith) (λ m. omega arith)) in let b : f n ≡ f q = ap f k in omega arith
    go (inr k) ih = let a : sum_below n f ≡ f q = ih (omega arith) (λ r l. none r (omega arith)) in let b : f n ≡ 0 = none n (omega arith) k in omega arith

pub total_none : (n : ℕ) (f : ℕ → ℕ) → sum_below n f ≡ 0 → (i : ℕ) → i < n → f i ≡ 0
total_none zero f e i l = absurd (omega arith)
total_none (suc n) f e i l = go (cases_eq i n) (total_none n f (omega arith))
  where
    go : (i ≡ n) ⊎ (i ≡ n → ⊥) → ((k : ℕ) → k < n → f k ≡ 0) → f i ≡ 0
    go (inl q) ih = let a : f n ≡ 0 = omega arith in ap f q ∙ a
    go (inr q) ih = ih i (omega arith)

pub total_swap : (m n : ℕ) (f : ℕ → ℕ → ℕ) → sum_below m (λ i. sum_below n (λ k. f i k)) ≡ sum_below n (λ k. sum_below m (λ i. f i k))
total_swap zero n f = sym (total_zero n (λ _. 0) (λ i l. refl))
total_swap (suc m) n f = omega (arith, total_swap m n f, total_add n (λ k. sum_below m (λ i. f i k)) (λ k. f m k))

-- the first one apart
pub total_first : (n : ℕ) (f : ℕ → ℕ) → sum_below (suc n) f ≡ f 0 + sum_below n (λ i. f (suc i))
total_first zero f = omega arith
total_first (suc n) f = omega (arith, total_first n f)
