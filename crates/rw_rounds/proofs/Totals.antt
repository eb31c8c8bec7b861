-- Sums of weights, weights by a test, and letters counted by weights.
use Rattle.std.proofs.Common.{◌≡◌, ℕ, suc, ◌+◌, ◌<◌, Bool, true, false, cond, List, [], ◌∷◌, ◌++◌, length, refl, sym, ap, ◌∙◌, subst, arith, inl, inr}
use Rattle.std.specs.Prelude.{◌⊎◌, not, filter, ◌==◌}
use Rattle.std.specs.Ordering.{is_eq}
use Rattle.std.specs.declared.cmp.Ordering.{Ordering}
use Rattle.std.proofs.lemmas.Bool.{cases_Bool, eq-eqb, ne_eqb}
use Rattle.rw_vt.specs.declared.event.Event.{Event}
use Rattle.rw_vt.specs.declared.event.Letter.{Letter}
use Rattle.rw_vt.specs.Order.{one_if_same}
use Rattle.rw_vt.specs.Letters.{messages, antis}
use Rattle.rw_vt.specs.System.{map_from, flatten}
use Rattle.rw_vt.proofs.Sorting.{IsExactOrder, tied}
use Rattle.rw_vt.proofs.Bags.{one_if-other}
use Rattle.rw_vt.proofs.Letters.{count-letter}
use Rattle.rw_pool.specs.Sums.{sum_below}
use Rattle.rw_pool.proofs.Sums.{total_same, total_add, total_zero, total_one, total_first}
use Rattle.rw_rounds.specs.Bags.{weigh, only, Every}
use Rattle.rw_rounds.proofs.Cited.{weigh-append}

module _ {X : Type 0} where
  pub weigh_split : (p : X → Bool) (h : X → ℕ) (xs : List X) → weigh h xs ≡ weigh (only p h) xs + weigh (only (λ x. not (p x)) h) xs
  weigh_split p h [] = refl
  weigh_split p h (x ∷ xs) = go (p x) (weigh_split p h xs)
    where
      go : (b : Bool) → weigh h xs ≡ weigh (only p h) xs + weigh (only (λ x. not (p x)) h) xs → h x + weigh h xs ≡ (cond b (h x) 0 + weigh (only p h) xs) + (cond (not b) (h x) 0 + weigh (only (λ x. not (p x)) h) xs)
      go true k = omega arith
      go false k = omega arith

  -- lists each of which is one with more at its end
  pub total_more : (h : X → ℕ) (n : ℕ) (x y z : ℕ → List X) → ((k : ℕ) → z k ≡ x k ++ y k) → sum_below n (λ k. weigh h (z k)) ≡ sum_below n (λ k. weigh h (x k)) + sum_below n (λ k. weigh h (y k))
  total_more h n x y z q =
      total_same n (λ k. weigh h (z k)) (λ k. weigh h (x k) + weigh h (y k)) (λ k l. ap (weigh h) (q k) ∙ weigh-append h (x k) (y k))
      ∙ total_add n (λ k. weigh h (x k)) (λ k. weigh h (y k))

  pub total_split : (p : X → Bool) (h : X → ℕ) (n : ℕ) (x : ℕ → List X) → sum_below n (λ k. weigh h (x k)) ≡ sum_below n (λ k. weigh (only p h) (x k)) + sum_below n (λ k. weigh (only (λ l. not (p l)) h) (x k))
  total_split p h n x =
      total_same n (λ k. weigh h (x k)) (λ k. weigh (only p h) (x k) + weigh (only (λ l. not (p l)) h) (x k)) (λ k l. weigh_split p h (x k))
      ∙ total_add n (λ k. weigh (only p h) (x k)) (λ k. weigh (only (λ l. not (p l)) h) (x k))

  pub weightless : (xs : List X) → weigh (λ _. 1) xs ≡ 0 → xs ≡ []
  weightless [] h = refl
  weightless (x ∷ xs) h = absurd (omega arith)

  pub every_both : (P Q : X → Type 0) (xs : List X) → Every P xs → Every Q xs → Every (λ x. P x × Q x) xs
  every_both P Q [] a b = tt
  every_both P Q (x ∷ xs) a b = ((a.0, b.0), every_both P Q xs a.1 b.1)

  pub every_filter : (P : X → Type 0) (p : X → Bool) (xs : List X) → Every P xs → Every P (filter p xs)
  every_filter P p [] e = tt
  every_filter P p (x ∷ xs) e = go (p x) (every_filter P p xs e.1)
    where
      go : (b : Bool) → Every P (filter p xs) → Every P (cond b (x ∷ filter p xs) (filter p xs))
      go true rest = (e.0, rest)
      go false rest = rest

  pub every_passes : (p : X → Bool) (xs : List X) → Every (λ x. p x ≡ true) (filter p xs)
  every_passes p [] = tt
  every_passes p (x ∷ xs) = go (p x) refl (every_passes p xs)
    where
      go : (b : Bool) → p x ≡ b → Every (λ x. p x ≡ true) (filter p xs) → Every (λ x. p x ≡ true) (cond b (x ∷ filter p xs) (filter p xs))
      go true q rest = (q, rest)
      go false q rest = rest

  -- each goes to one of n places, and what goes to each is taken together
  pub weigh_by : (h : X → ℕ) (n : ℕ) (place : X → ℕ) → ((x : X) → place x < n) → (xs : List X) → sum_below n (λ i. weigh h (filter (λ x. place x == i) xs)) ≡ weigh h xs
  weigh_by h n place below [] = total_zero n (λ _. 0) (λ i k. refl)
  weigh_by h n place below (x ∷ xs) =
      total_same n (λ i. weigh h (filter (λ u. place u == i) (x ∷ xs))) (λ i. cond (place x == i) (h x) 0 + weigh h (filter (λ u. place u == i) xs)) (λ i k. part i (place x == i))
      ∙ total_add n (λ i. cond (place x == i) (h x) 0) (λ i. weigh h (filter (λ u. place u == i) xs))
      ∙ (let rest = weigh_by h n place below xs in omega (arith, one))
    where
      part : (i : ℕ) (b : Bool) → weigh h (cond b (x ∷ filter (λ u. place u == i) xs) (filter (λ u. place u == i) xs)) ≡ cond b (h x) 0 + weigh h (filter (λ u. place u == i) xs)
      part i true = refl
      part i false = omega arith

      one : sum_below n (λ i. cond (place x == i) (h x) 0) ≡ h x
      one =
          total_one n (place x) (λ i. cond (place x == i) (h x) 0) (below x) (λ i l k. ap (λ b. cond b (h x) 0) (ne_eqb (place x) i (λ q. k (sym q))))
          ∙ ap (λ b. cond b (h x) 0) (eq-eqb (place x) (place x) refl)

  -- lists by place, joined
  weigh_from : {A : Type 0} (h : X → ℕ) (f : ℕ → List X) (k : ℕ) (us : List A) (g : ℕ → ℕ) → ((i : ℕ) → g i ≡ k + i) → weigh h (flatten (map_from k (λ q _. f q) us)) ≡ sum_below (length us) (λ i. weigh h (f (g i)))
  weigh_from h f k [] g at = refl
  weigh_from h f k (u ∷ us) g at =
      let first : weigh h (f (g 0)) ≡ weigh h (f k) = ap (λ q. weigh h (f q)) (let e = at 0 in omega arith) in
      let ih = weigh_from h f (k + 1) us (λ i. g (suc i)) (λ i. let e = at (suc i) in omega arith) in
      omega (arith, weigh-append h (f k) (flatten (map_from (k + 1) (λ q _. f q) us)), total_first (length us) (λ i. weigh h (f (g i))))

  pub weigh_joined : {A : Type 0} (h : X → ℕ) (f : ℕ → List X) (us : List A) → weigh h (flatten (map_from 0 (λ q _. f q) us)) ≡ sum_below (length us) (λ i. weigh h (f i))
  weigh_joined h f us = weigh_from h f 0 us (λ i. i) (λ i. omega arith)

module _ {B : Type 0} (cmp : Event B → Event B → Ordering) where
  -- 1 for the message of e, and 1 for its anti
  abbrev pub message : Event B → Letter B → ℕ
  message e l = cond l.anti 0 (one_if_same cmp e l.event)

  abbrev pub anti : Event B → Letter B → ℕ
  anti e l = cond l.anti (one_if_same cmp e l.event) 0

  pub messages_weigh : (e : Event B) (ls : List (Letter B)) → messages cmp e ls ≡ weigh (message e) ls
  messages_weigh e [] = refl
  messages_weigh e (l ∷ ls) = ap (λ k. message e l + k) (messages_weigh e ls)

  pub antis_weigh : (e : Event B) (ls : List (Letter B)) → antis cmp e ls ≡ weigh (anti e) ls
  antis_weigh e [] = refl
  antis_weigh e (l ∷ ls) = ap (λ k. anti e l + k) (antis_weigh e ls)

  -- what holds of the event of each letter holds of each event that the letters count
  pub every_counted : IsExactOrder cmp → (P : Event B → Type 0) (e : Event B) (ls : List (Letter B)) → Every (λ l. P l.event) ls → 0 < messages cmp e ls + antis cmp e ls → P e
  every_counted o P e [] all k = absurd (omega arith)
  every_counted o P e (l ∷ ls) all k = go (cases_Bool (is_eq (cmp e l.event))) (every_counted o P e ls all.1)
    where
      go : (is_eq (cmp e l.event) ≡ true) ⊎ (is_eq (cmp e l.event) ≡ false) → (0 < messages cmp e ls + antis cmp e ls → P e) → P e
      go (inl q) rest = subst P (sym (tied o e l.event q)) all.0
      go (inr q) rest = let none = one_if-other o e l.event q in rest (omega (arith, count-letter cmp e l ls))
