-- What lists of letters weigh.
use Rattle.std.proofs.Common.{◌≡◌, ℕ, ◌+◌, ◌<◌, cond, List, [], ◌∷◌, ◌++◌, refl, sym, ap, ◌∙◌, subst, arith}
use Rattle.std.specs.Prelude.{◌==◌, reverse}
use Rattle.std.proofs.lemmas.Grind.{reverse_onto}
use Rattle.std.proofs.lemmas.Bool.{eq-eqb, ne_eqb}
use Rattle.rw_pool.specs.Sums.{sum_below}
use Rattle.rw_pool.proofs.Sums.{total_one}
use Rattle.rw_rounds.specs.Bags.{weigh, Every}

-- a list at one place
abbrev pub at_only : {X : Type 0} → ℕ → List X → ℕ → List X
at_only p xs q = cond (q == p) xs []

pub at_here : {X : Type 0} (p : ℕ) (xs : List X) → at_only p xs p ≡ xs
at_here p xs = ap (λ b. cond b xs []) (eq-eqb p p refl)

pub at_other : {X : Type 0} (p q : ℕ) (xs : List X) → (q ≡ p → ⊥) → at_only p xs q ≡ []
at_other p q xs h = ap (λ b. cond b xs []) (ne_eqb q p h)

module _ {X : Type 0} where
  pub weigh-append : (h : X → ℕ) (xs ys : List X) → weigh h (xs ++ ys) ≡ weigh h xs + weigh h ys
  weigh-append h [] ys = omega arith
  weigh-append h (x ∷ xs) ys = omega (arith, weigh-append h xs ys)

  pub weigh_zero : {P : X → Type 0} (h : X → ℕ) (xs : List X) → ((x : X) → P x → h x ≡ 0) → Every P xs → weigh h xs ≡ 0
  weigh_zero h [] k e = refl
  weigh_zero h (x ∷ xs) k e = omega (arith, k x e.0, weigh_zero h xs k e.1)

  pub every_zero : (P : X → Type 0) (h : X → ℕ) (xs : List X) → ((x : X) → h x ≡ 0 → P x) → weigh h xs ≡ 0 → Every P xs
  every_zero P h [] k e = tt
  every_zero P h (x ∷ xs) k e = (k x (omega arith), every_zero P h xs k (omega arith))

  pub every_append : (P : X → Type 0) (xs ys : List X) → Every P xs → Every P ys → Every P (xs ++ ys)
  every_append P [] ys a b = b
  every_append P (x ∷ xs) ys a b = (a.0, every_append P xs ys a.1 b)

  pub every_front : (P : X → Type 0) (xs ys : List X) → Every P (xs ++ ys) → Every P xs
  every_front P [] ys e = tt
  every_front P (x ∷ xs) ys e = (e.0, every_front P xs ys e.1)

  pub every_back : (P : X → Type 0) (xs ys : List X) → Every P (xs ++ ys) → Every P ys
  every_back P [] ys e = e
  every_back P (x ∷ xs) ys e = every_back P xs ys e.1

  pub weigh_reverse : (h : X → ℕ) (xs : List X) → weigh h (reverse xs) ≡ weigh h xs
  weigh_reverse h [] = refl
  weigh_reverse h (x ∷ xs) = ap (weigh h) (reverse_onto xs x []) ∙ (weigh-append h (reverse xs) (x ∷ []) ∙ omega (arith, weigh_reverse h xs))

  pub every_reverse : (P : X → Type 0) (xs : List X) → Every P xs → Every P (reverse xs)
  every_reverse P [] e = tt
  every_reverse P (x ∷ xs) e = subst (Every P) (sym (reverse_onto xs x [])) (every_append P (reverse xs) (x ∷ []) (every_reverse P xs e.1) (e.0, tt))

  pub weigh_at : (n p : ℕ) (h : X → ℕ) (xs : List X) → p < n → sum_below n (λ q. weigh h (at_only p xs q)) ≡ weigh h xs
  weigh_at n p h xs l = total_one n p (λ q. weigh h (at_only p xs q)) l (λ r l k. ap (weigh h) (at_other p r xs k)) ∙ ap (weigh h) (at_here p xs)
