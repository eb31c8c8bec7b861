-- What lists weigh, lists by number joined, and what stands in them.
use Rattle.std.proofs.Common.{◌≡◌, ℕ, zero, suc, ◌+◌, ◌<◌, Bool, true, false, cond, append-nil, List, [], ◌∷◌, ◌++◌, length, map, get_or, refl, sym, ap, ◌∙◌, subst, arith, inl, inr, IsPermutation}
use Rattle.std.specs.Prelude.{◌⊎◌, ◌==◌, filter, slice_index_or, slice_set}
use Rattle.std.specs.List.{sum_by, All}
use Rattle.std.specs.declared.cmp.Ordering.{Ordering}
use Rattle.std.proofs.lemmas.Bool.{cases_eq, eq-eqb, ne_eqb}
use Rattle.std.proofs.lemmas.List.Elements.{All-cons, All-nil}
use Rattle.std.proofs.lemmas.List.Recursion.{is_sum_by}
use Rattle.std.proofs.lemmas.List.Sorted.{sum_by-IsPermutation}
use Rattle.rw_vt.specs.Order.{weigh, Has}
use Rattle.rw_vt.specs.System.{flatten}
use Rattle.rw_vt.proofs.Sorting.{IsExactOrder, Has-append, Has-head, Has-tail}
use Rattle.rw_pool.specs.Sums.{sum_below}
use Rattle.rw_pool.proofs.Sums.{total_add, total_first, total_one, total_same, total_zero}

-- the lists f 0, .., f (n - 1), one after another
abbrev pub joined : {X : Type 0} → ℕ → (ℕ → List X) → List X
joined zero f = []
joined (suc n) f = joined n f ++ f n

module _ {X : Type 0} where
  pub weigh-append : (h : X → ℕ) (xs ys : List X) → weigh h (xs ++ ys) ≡ weigh h xs + weigh h ys
  weigh-append h [] ys = omega arith
  weigh-append h (x ∷ xs) ys = omega (arith, weigh-append h xs ys)

  pub weigh-joined : (h : X → ℕ) (n : ℕ) (f : ℕ → List X) → weigh h (joined n f) ≡ sum_below n (λ i. weigh h (f i))
  weigh-joined h zero f = refl
  weigh-joined h (suc n) f = omega (arith, weigh-append h (joined n f) (f n), weigh-joined h n f)

  -- what lists weigh that are joined
  pub weigh_flatten : {W : Type 0} (h : X → ℕ) (f : W → List X) (ws : List W) (d : W) → weigh h (flatten (map f ws)) ≡ sum_below (length ws) (λ i. weigh h (f (get_or ws i d)))
  weigh_flatten h f [] d = refl
  weigh_flatten h f (w ∷ ws) d =
      weigh-append h (f w) (flatten (map f ws))
      ∙ ap (λ k. weigh h (f w) + k) (weigh_flatten h f ws d)
      ∙ sym (total_first (length ws) (λ i. weigh h (f (get_or (w ∷ ws) i d))))

  -- each goes to one of n places, and what goes to each is taken together
  pub weigh_by : (h : X → ℕ) (n : ℕ) (place : X → ℕ) → ((x : X) → place x < n) → (xs : List X) → sum_below n (λ i. weigh h (filter (λ x. place x == i) xs)) ≡ weigh h xs
  weigh_by h n place below [] = total_zero n (λ _. 0) (λ i k. refl)
  weigh_by h n place below (x ∷ xs) =
      total_same n (λ i. weigh h (filter (λ u. place u == i) (x ∷ xs))) (λ i. cond (place x == i) (h x) 0 + weigh h (filter (λ u. place u == i) xs)) (λ i k. part i (place x == i))
      ∙ total_add n (λ i. cond (place x == i) (h x) 0) (λ i. weigh h (filter (λ u. place u == i) xs))
      ∙ (let rest = weigh_by h n place below xs in omega (arith, one))
    where
      part : (i : ℕ) (b : Bool) → weigh h (cond b (x ∷ filter (λ u. place u == i) xs) (filter (λ u. place u == i) xs)) ≡ cond b (h x) 0 + weigh h (filter (λ u. place u == i) xs)
      part i true = refl
      part i false = omega arith

      one : sum_below n (λ i. cond (place x == i) (h x) 0) ≡ h x
      one =
          total_one n (place x) (λ i. cond (place x == i) (h x) 0) (below x) (λ i l k. ap (λ b. cond b (h x) 0) (ne_eqb (place x) i (λ q. k (sym q))))
          ∙ ap (λ b. cond b (h x) 0) (eq-eqb (place x) (place x) refl)

  -- what a list weighs does not depend on its order
  pub weigh_permuted : (h : X → ℕ) (xs ys : List X) → IsPermutation xs ys → weigh h ys ≡ weigh h xs
  weigh_permuted h xs ys moved = as_sum ys ∙ sum_by-IsPermutation h xs ys moved ∙ sym (as_sum xs)
    where
      as_sum : (zs : List X) → weigh h zs ≡ sum_by h zs
      as_sum zs = is_sum_by (weigh h) h refl (λ z zs. refl) zs

  -- one list of several is exchanged for another
  pub weigh-flatten_set : (h : X → ℕ) (lists : List (List X)) (i : ℕ) (l : List X) → i < length lists
      → weigh h (flatten (slice_set lists i l)) + weigh h (slice_index_or lists i []) ≡ weigh h (flatten lists) + weigh h l
  weigh-flatten_set h [] i l k = absurd (omega arith)
  weigh-flatten_set h (xs ∷ xss) zero l k = omega (arith, weigh-append h l (flatten xss), weigh-append h xs (flatten xss))
  weigh-flatten_set h (xs ∷ xss) (suc i) l k =
      omega (arith, weigh-flatten_set h xss i l (omega arith), weigh-append h xs (flatten (slice_set xss i l)), weigh-append h xs (flatten xss))

  -- lists of which none has anything
  pub joined_none : (n : ℕ) (f : ℕ → List X) → ((i : ℕ) → i < n → f i ≡ []) → joined n f ≡ []
  joined_none zero f none = refl
  joined_none (suc n) f none = ap (λ l. l ++ f n) (joined_none n f (λ i l. none i (omega arith))) ∙ none n (omega arith)

  -- lists of which one alone has anything
  pub joined_one : (n q : ℕ) (f : ℕ → List X) → q < n → ((i : ℕ) → i < n → (i ≡ q → ⊥) → f i ≡ []) → joined n f ≡ f q
  joined_one zero q f l none = absurd (omega arith)
  joined_one (suc n) q f l none = go (cases_eq n q) (λ m. joined_one n q f m (λ i k. none i (omega arith)))
    where
      go : (n ≡ q) ⊎ (n ≡ q → ⊥) → (q < n → joined n f ≡ f q) → joined n f ++ f n ≡ f q
      go (inl k) ih = ap (λ z. z ++ f n) (joined_none n f (λ i m. none i (omega arith) (λ e. omega arith))) ∙ ap f k
      go (inr k) ih = ap (λ z. joined n f ++ z) (none n (omega arith) k) ∙ append-nil (joined n f) ∙ ih (omega arith)

module _ {E : Type 0} {cmp : E → E → Ordering} (o : IsExactOrder cmp) where
  -- what stands in joined lists stands in one of them
  pub Has-joined : (n : ℕ) (f : ℕ → List E) (e : E) → Has cmp (joined n f) e → (i : ℕ) × (i < n) × Has cmp (f i) e
  Has-joined zero f e h = absurd (omega arith)
  Has-joined (suc n) f e h = elim (Has-append o e (joined n f) (f n) h) [
    | inl m ↦ let r = Has-joined n f e m in (r.0, omega (arith, r.1), r.2)
    | inr m ↦ (n, omega arith, m)
  ]

  pub Has-flatten : {W : Type 0} (f : W → List E) (ws : List W) (e : E) (d : W) → Has cmp (flatten (map f ws)) e → (i : ℕ) × (i < length ws) × Has cmp (f (get_or ws i d)) e
  Has-flatten f [] e d h = absurd (omega arith)
  Has-flatten f (w ∷ ws) e d h = elim (Has-append o e (f w) (flatten (map f ws)) h) [
    | inl m ↦ (0, omega arith, m)
    | inr m ↦ let r = Has-flatten f ws e d m in (suc r.0, omega (arith, r.1), r.2)
  ]

  pub Has-flat : (ls : List (List E)) (e : E) → Has cmp (flatten ls) e → (i : ℕ) × (i < length ls) × Has cmp (get_or ls i []) e
  Has-flat [] e h = absurd (omega arith)
  Has-flat (l ∷ ls) e h = elim (Has-append o e l (flatten ls) h) [
    | inl m ↦ (0, omega arith, m)
    | inr m ↦ let r = Has-flat ls e m in (suc r.0, omega (arith, r.1), r.2)
  ]

  -- what holds of each that stands in a list holds of all
  pub all_of_each : (P : E → Type 0) (xs : List E) → ((a : E) → Has cmp xs a → P a) → All P xs
  all_of_each P [] each = All-nil P
  all_of_each P (x ∷ xs) each = All-cons P x xs (each x (Has-head o x xs)) (all_of_each P xs (λ a h. each a (Has-tail o a x xs h)))

-- one for each number below n
pub choose : {A : Type 0} (P : ℕ → A → Type 0) → A → (n : ℕ) → ((i : ℕ) → i < n → (x : A) × P i x) → (f : ℕ → A) × ((i : ℕ) → i < n → P i (f i))
choose {A} P d zero c = ((λ i. d), λ i l. absurd (omega arith))
choose {A} P d (suc n) c =
    let r = choose P d n (λ i l. c i (omega arith)) in
    let last = c n (omega arith) in
    ((λ i. cond (i == n) last.0 (r.0 i)), λ i l. go n r.0 last.0 i l (cases_eq i n) r.1 last.1)
  where
    go : (n : ℕ) (f : ℕ → A) (x : A) (i : ℕ) → i < suc n → (i ≡ n) ⊎ (i ≡ n → ⊥) → ((i : ℕ) → i < n → P i (f i)) → P n x → P i (cond (i == n) x (f i))
    go n f x i l (inl q) all here = subst (λ k. P k (cond (k == n) x (f k))) (sym q) (subst (P n) (sym (ap (λ b. cond b x (f n)) (eq-eqb n n refl))) here)
    go n f x i l (inr q) all here = subst (P i) (sym (ap (λ b. cond b x (f i)) (ne_eqb i n q))) (all i (omega arith))
