-- The first place of a list that passes a test, for loops that look for it.
use Rattle.std.proofs.Common.{◌≡◌, ℕ, ◌+◌, ◌≤◌, ◌<◌, List, [], ◌∷◌, refl, sym, ap, subst, ◌∙◌, arith, Bool, true, false, length, get_or, inl, inr, zero, suc}
use Rattle.std.specs.Prelude.{Some, None, slice_get, nat_lt, position, ◌||◌}
use Rattle.std.specs.List.{list_any, position_or_len}
use Rattle.rw_blocks.specs.declared.Kind.{Kind}
use Rattle.rw_blocks.specs.declared.Kind.TheVariants.{Device}
use Rattle.rw_blocks.specs.State.{QueueState, section_at, sealed_block}
use Rattle.rw_ripq.proofs.Basics.{by_bool, none_some, some_is}
use Rattle.std.proofs.lemmas.Bool.{cases_lt, lt-ltb, ltb-true}
use Rattle.std.proofs.lemmas.List.Sums.{position_or_len_is}

or-first : (t u : Bool) → t ≡ true → (t || u) ≡ true
or-first t u h = rw h refl

or-second : (t u : Bool) → u ≡ true → (t || u) ≡ true
or-second true u h = refl
or-second false u h = h

ltb-self : (n : ℕ) → nat_lt n n ≡ false
ltb-self n = by_bool (nat_lt n n) (λ t. absurd (omega (arith, ltb-true n n t))) (λ f. f)

module _ {X : Type 0} (p : X → Bool) where
  pub get-at : (xs : List X) (i : ℕ) (d e : X) → slice_get xs i ≡ Some e → (i < length xs) × (get_or xs i d ≡ e)
  get-at [] i d e h = absurd (none_some h)
  get-at (x ∷ xs) zero d e h = (omega arith, some_is h)
  get-at (x ∷ xs) (suc i) d e h = (let r = get-at xs i d e h in (omega (arith, r.0), r.1))

  pub first-at : (xs : List X) (i : ℕ) (d : X) {e : X} → ((k : ℕ) → k < i → p (get_or xs k d) ≡ false) → slice_get xs i ≡ Some e → p e ≡ true → Some i ≡ position p xs
  first-at xs i d {e} fails h t =
      let g = get-at xs i d e h in
      let at : position_or_len p xs ≡ i = position_or_len_is p xs i d (omega (arith, g.0)) fails (λ lt. ap p g.1 ∙ t) in
      rw (at, lt-ltb i (length xs) g.0) refl

  pub more-fail : (xs : List X) (i : ℕ) (d e : X) → ((k : ℕ) → k < i → p (get_or xs k d) ≡ false) → slice_get xs i ≡ Some e → p e ≡ false → (k : ℕ) → k < i + 1 → p (get_or xs k d) ≡ false
  more-fail xs i d e fails h f k lt =
      elim (cases_lt k i) [
        | inl less ↦ fails k less
        | inr ge ↦ (let same : k ≡ i = omega arith in subst (λ j. p (get_or xs j d) ≡ false) (sym same) (ap p (get-at xs i d e h).1 ∙ f))
      ]

  pub none-at : (xs : List X) (i : ℕ) (d : X) → ((k : ℕ) → k < i → p (get_or xs k d) ≡ false) → length xs ≤ i → None ≡ position p xs
  none-at xs i d fails le =
      let at : position_or_len p xs ≡ length xs = position_or_len_is p xs (length xs) d (omega arith) (λ k lt. fails k (omega arith)) (λ lt. absurd (omega arith)) in
      rw (at, ltb-self (length xs)) refl

  pub any-at : (xs : List X) (i : ℕ) (e : X) → slice_get xs i ≡ Some e → p e ≡ true → list_any p xs ≡ true
  any-at [] i e h t = absurd (none_some h)
  any-at (x ∷ xs) zero e h t = or-first (p x) (list_any p xs) (ap p (some_is h) ∙ t)
  any-at (x ∷ xs) (suc i) e h t = or-second (p x) (list_any p xs) (any-at xs i e h t)

  pub none-any : (xs : List X) (i : ℕ) (d : X) → ((k : ℕ) → k < i → p (get_or xs k d) ≡ false) → length xs ≤ i → list_any p xs ≡ false
  none-any [] i d fails le = refl
  none-any (x ∷ xs) zero d fails le = absurd (omega (arith, le))
  none-any (x ∷ xs) (suc i) d fails le = rw (fails 0 (omega arith)) (none-any xs i d (λ k lt. fails (suc k) (omega arith)) (omega (arith, le)))

  pub any_get : (xs : List X) (i : ℕ) (d : X) → i < length xs → p (get_or xs i d) ≡ true → list_any p xs ≡ true
  any_get [] i d lt t = absurd (omega arith)
  any_get (x ∷ xs) zero d lt t = rw t refl
  any_get (x ∷ xs) (suc i) d lt t = by_bool (p x) (λ h. rw h refl) (λ h. rw h (any_get xs i d (omega arith) t))

-- a sealed block by its position
pub sealed-at : (q : QueueState) (i p : ℕ) (e : ℕ × Kind) → slice_get (section_at q i).sealed p ≡ Some e → sealed_block q i p ≡ e
sealed-at q i p e is = (get-at (λ _. true) (section_at q i).sealed p (0, Device) e is).1
