-- Lists by place, and a worker's processes by number.
use Rattle.std.proofs.Common.{◌≡◌, ℕ, zero, suc, ◌+◌, ◌*◌, ◌<◌, cond, List, [], ◌∷◌, length, refl, sym, ap, ◌∙◌, arith, inl, inr, Option, Some, None}
use Rattle.std.specs.Prelude.{◌⊎◌, ◌/◌, ◌%◌, ◌==◌, slice_get, slice_set}
use Rattle.std.specs.Option.{option_map}
use Rattle.std.proofs.lemmas.Bool.{cases_eq, eq-eqb, ne_eqb}
use Rattle.rw_lp.specs.Process.{ProcessState}
use Rattle.rw_lp.specs.Calls.{LogicalProcess}
use Rattle.rw_rounds.specs.Turns.{Role, process_at}

pub get_within : {A : Type 0} (xs : List A) (n : ℕ) (a : A) → slice_get xs n ≡ Some a → n < length xs
get_within [] n a k = cc
get_within (b ∷ xs) zero a k = omega arith
get_within (b ∷ xs) (suc n) a k = let r = get_within xs n a k in omega arith

pub get_set-same : {A : Type 0} (ps : List A) (p : ℕ) (x y : A) → slice_get ps p ≡ Some x → slice_get (slice_set ps p y) p ≡ Some y
get_set-same [] p x y h = cc
get_set-same (a ∷ ps) zero x y h = refl
get_set-same (a ∷ ps) (suc p) x y h = get_set-same ps p x y h

pub get_set-other : {A : Type 0} (ps : List A) (p q : ℕ) (y : A) → (q ≡ p → ⊥) → slice_get (slice_set ps p y) q ≡ slice_get ps q
get_set-other [] p q y h = refl
get_set-other (a ∷ ps) zero zero y h = absurd (h refl)
get_set-other (a ∷ ps) zero (suc q) y h = refl
get_set-other (a ∷ ps) (suc p) zero y h = refl
get_set-other (a ∷ ps) (suc p) (suc q) y h = get_set-other ps p q y (λ k. h (ap suc k))

pub length_set : {A : Type 0} (xs : List A) (q : ℕ) (y : A) → length (slice_set xs q y) ≡ length xs
length_set [] q y = refl
length_set (x ∷ xs) zero y = omega arith
length_set (x ∷ xs) (suc q) y = omega (arith, length_set xs q y)

module _ {M S B : Type 0} (r : Role) (xs : List (LogicalProcess M S B)) where
  -- a process of the worker stands at its place
  pub at_place : (q place : ℕ) (l : LogicalProcess M S B) → q % r.plan.workers ≡ r.number → q / r.plan.workers ≡ place → slice_get xs place ≡ Some l → process_at r xs q ≡ Some l.process
  at_place q place l own here there =
      ap (λ b. cond b (option_map (λ l. l.process) (slice_get xs (q / r.plan.workers))) None) (eq-eqb (q % r.plan.workers) r.number own)
      ∙ ap (λ i. option_map (λ l. l.process) (slice_get xs i)) here
      ∙ ap (option_map (λ l. l.process)) there

  -- and each process that the worker has stands there
  pub place_of : (q : ℕ) (x : ProcessState S B) → process_at r xs q ≡ Some x → (l : LogicalProcess M S B) × (slice_get xs (q / r.plan.workers) ≡ Some l) × (l.process ≡ x) × (q % r.plan.workers ≡ r.number)
  place_of q x h = go (cases_eq (q % r.plan.workers) r.number)
    where
      some : (o : Option (LogicalProcess M S B)) → slice_get xs (q / r.plan.workers) ≡ o → option_map (λ l. l.process) o ≡ Some x → q % r.plan.workers ≡ r.number → (l : LogicalProcess M S B) × (slice_get xs (q / r.plan.workers) ≡ Some l) × (l.process ≡ x) × (q % r.plan.workers ≡ r.number)
      some None k e own = cc
      some (Some l) k e own = (l, k, (let is : l.process ≡ x = cc in is), own)

      go : (q % r.plan.workers ≡ r.number) ⊎ (q % r.plan.workers ≡ r.number → ⊥) → (l : LogicalProcess M S B) × (slice_get xs (q / r.plan.workers) ≡ Some l) × (l.process ≡ x) × (q % r.plan.workers ≡ r.number)
      go (inl own) = some (slice_get xs (q / r.plan.workers)) refl (sym (ap (λ b. cond b (option_map (λ l. l.process) (slice_get xs (q / r.plan.workers))) None) (eq-eqb (q % r.plan.workers) r.number own)) ∙ h) own
      go (inr other) = let none : None ≡ Some x = sym (ap (λ b. cond b (option_map (λ l. l.process) (slice_get xs (q / r.plan.workers))) None) (ne_eqb (q % r.plan.workers) r.number other)) ∙ h in cc

  module _ (positive : 0 < r.plan.workers) (p : ℕ) (own : p % r.plan.workers ≡ r.number) (l z : LogicalProcess M S B) (there : slice_get xs (p / r.plan.workers) ≡ Some l) where
    pub set_here : process_at r (slice_set xs (p / r.plan.workers) z) p ≡ Some z.process
    set_here =
        ap (λ b. cond b (option_map (λ l. l.process) (slice_get (slice_set xs (p / r.plan.workers) z) (p / r.plan.workers))) None) (eq-eqb (p % r.plan.workers) r.number own)
        ∙ ap (option_map (λ l. l.process)) (get_set-same xs (p / r.plan.workers) l z there)

    pub set_elsewhere : (q : ℕ) → (q ≡ p → ⊥) → process_at r (slice_set xs (p / r.plan.workers) z) q ≡ process_at r xs q
    set_elsewhere q other = go (cases_eq (q % r.plan.workers) r.number)
      where
        go : (q % r.plan.workers ≡ r.number) ⊎ (q % r.plan.workers ≡ r.number → ⊥) → process_at r (slice_set xs (p / r.plan.workers) z) q ≡ process_at r xs q
        go (inl mine) =
            let n : ℕ = r.plan.workers in
            let apart : q / r.plan.workers ≡ p / r.plan.workers → ⊥ = λ e. other (same e mine) in
            ap (λ o. cond (q % r.plan.workers == r.number) (option_map (λ l. l.process) o) None) (get_set-other xs (p / r.plan.workers) (q / r.plan.workers) z apart)
          where
            same : q / r.plan.workers ≡ p / r.plan.workers → q % r.plan.workers ≡ r.number → q ≡ p
            same e mine =
                let a : r.plan.workers * (q / r.plan.workers) + q % r.plan.workers ≡ q = omega arith in
                let b : r.plan.workers * (p / r.plan.workers) + p % r.plan.workers ≡ p = omega arith in
                sym a ∙ ap (λ d. r.plan.workers * d + q % r.plan.workers) e ∙ ap (λ d. r.plan.workers * (p / r.plan.workers) + d) (mine ∙ sym own) ∙ b
        go (inr foreign) =
            ap (λ b. cond b (option_map (λ l. l.process) (slice_get (slice_set xs (p / r.plan.workers) z) (q / r.plan.workers))) None) (ne_eqb (q % r.plan.workers) r.number foreign)
            ∙ sym (ap (λ b. cond b (option_map (λ l. l.process) (slice_get xs (q / r.plan.workers))) None) (ne_eqb (q % r.plan.workers) r.number foreign))
