-- Lists that are walked, and what is sorted out of them.
use Rattle.std.proofs.Common.{◌≡◌, ℕ, ◌+◌, ◌<◌, cond, List, [], ◌∷◌, ◌++◌, length, map, take, get_or, sym, ap, ◌∙◌, append-nil, append_assoc, arith, inl, inr}
use Rattle.std.specs.Prelude.{◌⊎◌, ◌==◌, filter, slice_set}
use Rattle.std.proofs.lemmas.Bool.{cases_eq, eq-eqb, ne_eqb}
use Rattle.std.proofs.lemmas.List.{get_or-set_same, get_or-set_other, take_more}
use Rattle.std.proofs.lemmas.List.Elements.{filter-append}
use Rattle.rw_vt.specs.System.{flatten}

-- of the n elements of a list that is walked, none is done
pub none_done : {X Y : Type 0} {xs : List X} {rest all : List Y} {done n : ℕ} → done ≡ length xs → xs ≡ [] → rest ≡ all → n ≡ length all → done + length rest ≡ n
none_done is none begin many = omega (arith, ap length none, ap length begin)

-- where so many are done there is room for the next one, and with it one more is done
pub room_for_one : {X : Type 0} {x : X} {xs rest : List X} {done n room : ℕ} → xs ≡ x ∷ rest → done + length xs ≡ n → room ≡ n → done < room
room_for_one one all is = omega (arith, ap length one)

pub one_more : {X : Type 0} {x : X} {xs rest : List X} (done : ℕ) {done' n : ℕ} → xs ≡ x ∷ rest → done + length xs ≡ n → done' ≡ done + 1 → done' + length rest ≡ n
one_more done one all next = omega (arith, ap length one)

-- of what is sorted out by f, the elements at q, one element further
module _ {X : Type 0} (f : X → ℕ) (q : ℕ) (xs : List X) (k : ℕ) (x : X) (within : k < length xs) (read : x ≡ get_or xs k x) where
  more : filter (λ a. f a == q) (take (k + 1) xs) ≡ filter (λ a. f a == q) (take k xs) ++ cond (f x == q) (x ∷ []) []
  more =
      ap (filter (λ a. f a == q)) (take_more xs k x within)
      ∙ filter-append (λ a. f a == q) (take k xs) (get_or xs k x ∷ [])
      ∙ ap (λ a. filter (λ a. f a == q) (take k xs) ++ cond (f a == q) (a ∷ []) []) (sym read)

  more_here : f x ≡ q → filter (λ a. f a == q) (take (k + 1) xs) ≡ filter (λ a. f a == q) (take k xs) ++ x ∷ []
  more_here h = more ∙ ap (λ b. filter (λ a. f a == q) (take k xs) ++ cond b (x ∷ []) []) (eq-eqb (f x) q h)

  more_elsewhere : (f x ≡ q → ⊥) → filter (λ a. f a == q) (take (k + 1) xs) ≡ filter (λ a. f a == q) (take k xs)
  more_elsewhere h = more ∙ ap (λ b. filter (λ a. f a == q) (take k xs) ++ cond b (x ∷ []) []) (ne_eqb (f x) q h) ∙ append-nil (filter (λ a. f a == q) (take k xs))

-- sorted out by f, one element further
pub sorted_more : {X : Type 0} (f : X → ℕ) (boxes : List (List X)) (count : ℕ) (xs : List X) (k : ℕ) (x : X) → length boxes ≡ count → f x < count → k < length xs → x ≡ get_or xs k x
    → ((q : ℕ) → q < count → get_or boxes q [] ≡ filter (λ a. f a == q) (take k xs))
    → (q : ℕ) → q < count → get_or (slice_set boxes (f x) (get_or boxes (f x) [] ++ x ∷ [])) q [] ≡ filter (λ a. f a == q) (take (k + 1) xs)
sorted_more f boxes count xs k x long inside within read known q at = go (cases_eq (f x) q)
  where
    go : (f x ≡ q) ⊎ (f x ≡ q → ⊥) → get_or (slice_set boxes (f x) (get_or boxes (f x) [] ++ x ∷ [])) q [] ≡ filter (λ a. f a == q) (take (k + 1) xs)
    go (inl here) =
        ap (λ n. get_or (slice_set boxes (f x) (get_or boxes (f x) [] ++ x ∷ [])) n []) (sym here)
        ∙ get_or-set_same boxes (f x) (get_or boxes (f x) [] ++ x ∷ []) [] (omega arith)
        ∙ ap (λ n. get_or boxes n [] ++ x ∷ []) here
        ∙ ap (λ l. l ++ x ∷ []) (known q at)
        ∙ sym (more_here f q xs k x within read here)
    go (inr other) =
        get_or-set_other boxes (f x) q (get_or boxes (f x) [] ++ x ∷ []) [] (λ h. other (sym h))
        ∙ known q at
        ∙ sym (more_elsewhere f q xs k x within read other)

-- a piece more is done, of a list that is walked
pub piece_done : {A : Type 0} (done done' rest rest' whole piece : List A) → done ++ rest ≡ whole → rest ≡ piece ++ rest' → done' ≡ done ++ piece → done' ++ rest' ≡ whole
piece_done done done' rest rest' whole piece e r more = ap (λ z. z ++ rest') more ∙ (append_assoc done piece rest' ∙ (ap (λ z. done ++ z) (sym r) ∙ e))

flatten_push : {A X : Type 0} (f : A → List X) (xs : List A) (x : A) → flatten (map f (xs ++ x ∷ [])) ≡ flatten (map f xs) ++ f x
flatten_push f [] x = append-nil (f x)
flatten_push f (y ∷ ys) x = ap (λ z. f y ++ z) (flatten_push f ys x) ∙ sym (append_assoc (f y) (flatten (map f ys)) (f x))

-- one list more is joined, of those that are walked
pub joined_one : {A X : Type 0} (f : A → List X) (xs : List A) (k : ℕ) (x : A) → k < length xs → x ≡ get_or xs k x → flatten (map f (take (k + 1) xs)) ≡ flatten (map f (take k xs)) ++ f x
joined_one f xs k x within is = ap (λ z. flatten (map f z)) (take_more xs k x within ∙ ap (λ y. take k xs ++ y ∷ []) (sym is)) ∙ flatten_push f (take k xs) x
