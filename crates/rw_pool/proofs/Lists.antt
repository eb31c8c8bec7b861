-- Lists by place, and lists that are walked.
use Rattle.std.proofs.Common.{◌≡◌, ℕ, zero, suc, ◌+◌, ◌<◌, ◌≤◌, Option, List, [], ◌∷◌, ◌++◌, length, map, get_or, refl, sym, ap, ◌∙◌, subst, arith, append-nil, append_assoc, inl, inr, Some, None, Result, Ok, IfOk}
use Rattle.std.specs.Prelude.{◌⊎◌, slice_get, slice_set}
use Rattle.std.proofs.lemmas.Bool.{cases_eq}
use Rattle.std.proofs.lemmas.List.{map-set, get_or-map, map_push, length-map, nil_from_length}

-- a push into the list at p, seen through f
pub pushed_at : {V X : Type 0} (f : V → List X) (js : List V) (p : ℕ) (j v : V) (e : X) → p < length js → j ≡ get_or js p j → f v ≡ f j ++ e ∷ [] → map f (slice_set js p v) ≡ slice_set (map f js) p (get_or (map f js) p [] ++ e ∷ [])
pushed_at f js p j v e within read is =
    map-set f js p v ∙ ap (λ w. slice_set (map f js) p w) (is ∙ ap (λ w. w ++ e ∷ []) (sym (get_or-map f js p j [] within ∙ ap f (sym read))))

module _ {X : Type 0} where
  -- one element more
  pub get_push : (xs : List X) (x : X) → slice_get (xs ++ x ∷ []) (length xs) ≡ Some x
  get_push [] x = refl
  get_push (y ∷ xs) x = get_push xs x

  pub get_push-other : (xs : List X) (x : X) (i : ℕ) → (i ≡ length xs → ⊥) → slice_get (xs ++ x ∷ []) i ≡ slice_get xs i
  get_push-other [] x zero other = absurd (other refl)
  get_push-other [] x (suc i) other = refl
  get_push-other (y ∷ xs) x zero other = refl
  get_push-other (y ∷ xs) x (suc i) other = get_push-other xs x i (λ e. other (ap suc e))

  pub get_past : (xs : List X) (i : ℕ) → length xs ≤ i → slice_get xs i ≡ None
  get_past [] i past = refl
  get_past (x ∷ xs) zero past = absurd (omega arith)
  get_past (x ∷ xs) (suc i) past = get_past xs i (omega arith)

  pub get_there : (xs : List X) (i : ℕ) → i < length xs → slice_get xs i ≡ None → ⊥
  get_there [] i within none = omega arith
  get_there (x ∷ xs) zero within none = cc
  get_there (x ∷ xs) (suc i) within none = get_there xs i (omega arith) none

  -- the length is where the elements end
  pub length_is : (xs : List X) (n : ℕ) → ((i : ℕ) → i < n → slice_get xs i ≡ None → ⊥) → slice_get xs n ≡ None → length xs ≡ n
  length_is xs zero there end = go xs end
    where
      go : (ys : List X) → slice_get ys zero ≡ None → length ys ≡ 0
      go [] k = refl
      go (y ∷ ys) k = cc
  length_is [] (suc n) there end = absurd (there zero (omega arith) refl)
  length_is (x ∷ xs) (suc n) there end = let e = length_is xs n (λ i l. there (suc i) (omega arith)) end in omega arith

  -- one element more is joined
  pub joined_more : (F : ℕ → Option X) (k : ℕ) (xs : List X) (x : X) → length xs ≡ k → F k ≡ Some x → ((q : ℕ) → q < k → slice_get xs q ≡ F q) → (q : ℕ) → q < k + 1 → slice_get (xs ++ x ∷ []) q ≡ F q
  joined_more F k xs x long next known q within = go (cases_eq q k)
    where
      go : (q ≡ k) ⊎ (q ≡ k → ⊥) → slice_get (xs ++ x ∷ []) q ≡ F q
      go (inl here) = ap (slice_get (xs ++ x ∷ [])) (here ∙ sym long) ∙ get_push xs x ∙ sym next ∙ ap F (sym here)
      go (inr other) = get_push-other xs x q (λ e. other (e ∙ long)) ∙ known q (omega arith)

-- one more is done, of a list that is walked
pub one_done : {A C : Type 0} (h : C → A) (done done' : List C) (rest rest' whole : List A) (x : A) (p : C) → map h done ++ rest ≡ whole → rest ≡ x ∷ rest' → h p ≡ x → done' ≡ done ++ p ∷ [] → map h done' ++ rest' ≡ whole
one_done h done done' rest rest' whole x p e r same more =
    ap (λ z. map h z ++ rest') more ∙ (ap (λ z. z ++ rest') (map_push h done p) ∙ (append_assoc (map h done) (h p ∷ []) rest' ∙ (ap (λ z. map h done ++ (z ∷ rest')) same ∙ (ap (λ z. map h done ++ z) (sym r) ∙ e))))

-- one more is made of a list that is walked, each through f
pub one_made : {A C : Type 0} (f : A → C) (made made' : List C) (rest rest' whole : List A) (x : A) → made ++ map f rest ≡ map f whole → rest ≡ x ∷ rest' → made' ≡ made ++ f x ∷ [] → made' ++ map f rest' ≡ map f whole
one_made f made made' rest rest' whole x e r more =
    ap (λ z. z ++ map f rest') more ∙ (append_assoc made (f x ∷ []) (map f rest') ∙ (ap (λ z. made ++ map f z) (sym r) ∙ e))

-- all are done
pub all_walked : {A : Type 0} (done rest whole : List A) → done ++ rest ≡ whole → length rest ≡ 0 → done ≡ whole
all_walked done rest whole e none = sym (append-nil done) ∙ ap (λ z. done ++ z) (sym (nil_from_length rest none)) ∙ e

-- each that was handed over went on from where it was
pub pairs : {W E : Type 0} (Went : W → W → Type 0) (ws ws' : List W) (rs : List (Result W E)) → map (λ w. Ok w) ws' ≡ rs → ((i : ℕ) (d : W) (e : Result W E) → i < length ws → IfOk (get_or rs i e) (Went (get_or ws i d))) → length rs ≡ length ws
    → (length ws' ≡ length ws) × ((i : ℕ) (d d' : W) → i < length ws → Went (get_or ws i d) (get_or ws' i d'))
pairs {W} {E} Went ws ws' rs all each long =
    let wrap : W → Result W E = λ w. Ok w in
    let many : length ws' ≡ length ws = sym (length-map ws' wrap) ∙ (ap length all ∙ long) in (
      many,
      λ i d d' lt. let is : get_or rs i (Ok d') ≡ Ok (get_or ws' i d') = ap (λ z. get_or z i (Ok d')) (sym all) ∙ get_or-map wrap ws' i d' (Ok d') (omega arith) in
          subst (λ r. IfOk r (Went (get_or ws i d))) is (each i d (Ok d') lt),
    )
