-- Lists that are walked, sorted out and joined.
use Rattle.std.proofs.Common.{◌≡◌, ℕ, zero, suc, ◌+◌, ◌<◌, ◌≤◌, cond, List, [], ◌∷◌, ◌++◌, length, map, take, get_or, replicate, refl, sym, ap, ◌∙◌, subst, arith, append-nil, append_assoc, inl, inr}
use Rattle.std.specs.Prelude.{◌⊎◌, ◌==◌, filter, slice_set}
use Rattle.std.proofs.lemmas.Bool.{cases_eq, eq-eqb, ne_eqb}
use Rattle.std.proofs.lemmas.List.{get_or-set_same, get_or-set_other, get_or_push, get_or_append_left, get_or_default, take_all, take_more}
use Rattle.std.proofs.lemmas.List.Elements.{filter-append}
use Rattle.rw_vt.specs.System.{flatten}

-- What is walked

-- one more is done, of a list that is walked
pub one_walked : {A : Type 0} (done done' rest rest' whole : List A) (x : A) → done ++ rest ≡ whole → rest ≡ x ∷ rest' → done' ≡ done ++ x ∷ [] → done' ++ rest' ≡ whole
one_walked done done' rest rest' whole x e r more = ap (λ z. z ++ rest') more ∙ (append_assoc done (x ∷ []) rest' ∙ (ap (λ z. done ++ z) (sym r) ∙ e))

-- what holds of the first k holds of one more
pub held_more : {X : Type 0} (P : X → Type 0) (xs : List X) (k : ℕ) (x : X) → k < length xs → x ≡ get_or xs k x → ((i : ℕ) (d : X) → i < k → P (get_or xs i d)) → P x → (i : ℕ) (d : X) → i < k + 1 → P (get_or xs i d)
held_more P xs k x within read known here i d below = go (cases_eq i k)
  where
    go : (i ≡ k) ⊎ (i ≡ k → ⊥) → P (get_or xs i d)
    go (inl last) = subst P (sym (ap (λ j. get_or xs j d) last ∙ get_or_default xs k d x within ∙ sym read)) here
    go (inr other) = known i d (omega arith)

-- each has its number, one more too
pub numbered_more : {X : Type 0} (number : X → ℕ) (k : ℕ) (xs xs' : List X) (x : X) → length xs ≡ k → ((i : ℕ) (d : X) → i < k → number (get_or xs i d) ≡ i) → number x ≡ k → xs' ≡ xs ++ x ∷ []
    → (i : ℕ) (d : X) → i < k + 1 → number (get_or xs' i d) ≡ i
numbered_more {X} number k xs xs' x long known is more i d within = ap (λ l. number (get_or l i d)) more ∙ go (cases_eq i k)
  where
    go : (i ≡ k) ⊎ (i ≡ k → ⊥) → number (get_or (xs ++ x ∷ []) i d) ≡ i
    go (inl last) = ap (λ j. number (get_or (xs ++ x ∷ []) j d)) last ∙ ap number (get_or_push xs x d k long) ∙ is ∙ sym last
    go (inr other) = ap number (get_or_append_left xs (x ∷ []) d i (omega (arith, long))) ∙ known i d (omega arith)

-- What is sorted out

-- of what is sorted out by f, the elements at q, one element further
module _ {X : Type 0} (f : X → ℕ) (q : ℕ) (xs : List X) (k : ℕ) (x : X) (within : k < length xs) (read : x ≡ get_or xs k x) where
  more : filter (λ a. f a == q) (take (k + 1) xs) ≡ filter (λ a. f a == q) (take k xs) ++ cond (f x == q) (x ∷ []) []
  more =
      ap (filter (λ a. f a == q)) (take_more xs k x within)
      ∙ filter-append (λ a. f a == q) (take k xs) (get_or xs k x ∷ [])
      ∙ ap (λ a. filter (λ a. f a == q) (take k xs) ++ cond (f a == q) (a ∷ []) []) (sym read)

  more_here : f x ≡ q → filter (λ a. f a == q) (take (k + 1) xs) ≡ filter (λ a. f a == q) (take k xs) ++ x ∷ []
  more_here h = more ∙ ap (λ b. filter (λ a. f a == q) (take k xs) ++ cond b (x ∷ []) []) (eq-eqb (f x) q h)

  more_elsewhere : (f x ≡ q → ⊥) → filter (λ a. f a == q) (take (k + 1) xs) ≡ filter (λ a. f a == q) (take k xs)
  more_elsewhere h = more ∙ ap (λ b. filter (λ a. f a == q) (take k xs) ++ cond b (x ∷ []) []) (ne_eqb (f x) q h) ∙ append-nil (filter (λ a. f a == q) (take k xs))

-- sorted out by f, one element further
pub sorted_more : {X : Type 0} (f : X → ℕ) (boxes : List (List X)) (count : ℕ) (xs : List X) (k : ℕ) (x : X) → length boxes ≡ count → f x < count → k < length xs → x ≡ get_or xs k x
    → ((q : ℕ) → q < count → get_or boxes q [] ≡ filter (λ a. f a == q) (take k xs))
    → (q : ℕ) → q < count → get_or (slice_set boxes (f x) (get_or boxes (f x) [] ++ x ∷ [])) q [] ≡ filter (λ a. f a == q) (take (k + 1) xs)
sorted_more f boxes count xs k x long inside within read known q at = go (cases_eq (f x) q)
  where
    go : (f x ≡ q) ⊎ (f x ≡ q → ⊥) → get_or (slice_set boxes (f x) (get_or boxes (f x) [] ++ x ∷ [])) q [] ≡ filter (λ a. f a == q) (take (k + 1) xs)
    go (inl here) =
        ap (λ n. get_or (slice_set boxes (f x) (get_or boxes (f x) [] ++ x ∷ [])) n []) (sym here)
        ∙ get_or-set_same boxes (f x) (get_or boxes (f x) [] ++ x ∷ []) [] (omega arith)
        ∙ ap (λ n. get_or boxes n [] ++ x ∷ []) here
        ∙ ap (λ l. l ++ x ∷ []) (known q at)
        ∙ sym (more_here f q xs k x within read here)
    go (inr other) =
        get_or-set_other boxes (f x) q (get_or boxes (f x) [] ++ x ∷ []) [] (λ h. other (sym h))
        ∙ known q at
        ∙ sym (more_elsewhere f q xs k x within read other)

-- What is mapped

pub map_replicate : {X Y : Type 0} (f : X → Y) (n : ℕ) (x : X) → map f (replicate n x) ≡ replicate n (f x)
map_replicate f zero x = refl
map_replicate f (suc n) x = ap (λ l. f x ∷ l) (map_replicate f n x)

-- what is mapped twice
pub map_twice : {X Y Z : Type 0} (g : Y → Z) (f : X → Y) (xs : List X) → map (λ x. g (f x)) xs ≡ map g (map f xs)
map_twice g f [] = refl
map_twice g f (x ∷ xs) = ap (λ l. g (f x) ∷ l) (map_twice g f xs)

-- What is joined

flatten_push : {A X : Type 0} (f : A → List X) (ys : List A) (x : A) → flatten (map f (ys ++ x ∷ [])) ≡ flatten (map f ys) ++ f x
flatten_push f [] x = append-nil (f x)
flatten_push f (y ∷ ys) x = ap (λ z. f y ++ z) (flatten_push f ys x) ∙ sym (append_assoc (f y) (flatten (map f ys)) (f x))

-- one list more is joined, of those that are walked
one_more : {A X : Type 0} (f : A → List X) (xs : List A) (k : ℕ) (x : A) → k < length xs → x ≡ get_or xs k x → flatten (map f (take (k + 1) xs)) ≡ flatten (map f (take k xs)) ++ f x
one_more f xs k x within is = ap (λ z. flatten (map f z)) (take_more xs k x within ∙ ap (λ y. take k xs ++ y ∷ []) (sym is)) ∙ flatten_push f (take k xs) x

-- and stands behind what was joined before
pub one_behind : {A X : Type 0} (f : A → List X) (xs : List A) (k : ℕ) (x : A) (old now next : List X) → k < length xs → x ≡ get_or xs k x → now ≡ old ++ flatten (map f (take k xs)) → next ≡ now ++ f x
    → next ≡ old ++ flatten (map f (take (k + 1) xs))
one_behind f xs k x old now next within is before step =
    step ∙ ap (λ z. z ++ f x) before ∙ append_assoc old (flatten (map f (take k xs))) (f x) ∙ ap (λ z. old ++ z) (sym (one_more f xs k x within is))

-- once all lists are walked, they are joined, seen through g
pub all_behind : {A C X : Type 0} (g : A → C) (f : C → List X) (xs : List A) (k : ℕ) (now old : List X) → length xs ≤ k → now ≡ old ++ flatten (map (λ x. f (g x)) (take k xs)) → now ≡ old ++ flatten (map f (map g xs))
all_behind g f xs k now old past is = is ∙ ap (λ z. old ++ z) (ap (λ z. flatten (map (λ x. f (g x)) z)) (take_all k xs past) ∙ ap flatten (map_twice f g xs))
