-- Lists with one element for each process.
use Rattle.std.proofs.Common.{◌≡◌, ℕ, zero, suc, ◌+◌, ◌<◌, List, [], ◌∷◌, length, map, refl, sym, ap, ◌∙◌, arith, Some}
use Rattle.std.specs.Prelude.{slice_get, slice_set}
use Rattle.std.specs.Option.{option_map}
use Rattle.rw_vt.specs.System.{map_from, flatten}

pub get-set_same : {A : Type 0} (ps : List A) (p : ℕ) (x y : A) → slice_get ps p ≡ Some x → slice_get (slice_set ps p y) p ≡ Some y
get-set_same [] p x y h = cc
get-set_same (a ∷ ps) zero x y h = refl
get-set_same (a ∷ ps) (suc p) x y h = get-set_same ps p x y h

pub get-set_other : {A : Type 0} (ps : List A) (p q : ℕ) (y : A) → (q ≡ p → ⊥) → slice_get (slice_set ps p y) q ≡ slice_get ps q
get-set_other [] p q y h = refl
get-set_other (a ∷ ps) zero zero y h = absurd (h refl)
get-set_other (a ∷ ps) zero (suc q) y h = refl
get-set_other (a ∷ ps) (suc p) zero y h = refl
get-set_other (a ∷ ps) (suc p) (suc q) y h = get-set_other ps p q y (λ k. h (ap suc k))

pub map-set_same : {A C : Type 0} (f : A → C) (ps : List A) (p : ℕ) (x y : A) → slice_get ps p ≡ Some x → f y ≡ f x → map f (slice_set ps p y) ≡ map f ps
map-set_same f [] p x y h q = refl
map-set_same f (a ∷ ps) zero x y h q = let k : a ≡ x = cc in ap (λ b. b ∷ map f ps) (q ∙ ap f (sym k))
map-set_same f (a ∷ ps) (suc p) x y h q = ap (λ l. f a ∷ l) (map-set_same f ps p x y h q)

pub some_at : {A : Type 0} (xs : List A) (q : ℕ) → q < length xs → (x : A) × (slice_get xs q ≡ Some x)
some_at [] q h = absurd (omega arith)
some_at (x ∷ xs) zero h = (x, refl)
some_at (x ∷ xs) (suc q) h = some_at xs q (omega arith)

-- what `map_from` gives at a place
pub get-map_from : {A C : Type 0} (f : ℕ → A → C) (k : ℕ) (xs : List A) (q : ℕ) → slice_get (map_from k f xs) q ≡ option_map (f (k + q)) (slice_get xs q)
get-map_from f k [] q = refl
get-map_from f k (x ∷ xs) zero = let e : k ≡ k + 0 = omega arith in ap (λ n. Some (f n x)) e
get-map_from f k (x ∷ xs) (suc q) = let e : (k + 1) + q ≡ k + suc q = omega arith in get-map_from f (k + 1) xs q ∙ ap (λ n. option_map (f n) (slice_get xs q)) e

pub map_from-empty : {A E : Type 0} (k : ℕ) (xs : List A) → flatten {A = E} (map_from k (λ _ _. []) xs) ≡ []
map_from-empty k [] = refl
map_from-empty k (x ∷ xs) = map_from-empty (k + 1) xs

-- a list that is at each place what g says of the place and the start there
pub map-places : {X S C : Type 0} (start : X → S) (f : X → C) (g : ℕ → S → C) (k : ℕ) (xs : List X) → ((i j : ℕ) (x : X) → slice_get xs i ≡ Some x → j ≡ k + i → f x ≡ g j (start x)) → map f xs ≡ map_from k g (map start xs)
map-places start f g k [] h = refl
map-places {X = X} start f g k (x ∷ xs) h =
    let first : f x ≡ g k (start x) = h zero k x refl (omega arith) in
    let rest = map-places start f g (k + 1) xs (λ i j a m q. h (suc i) j a m (omega arith)) in
    ap (λ a. a ∷ map f xs) first ∙ ap (λ l. g k (start x) ∷ l) rest

-- what is there, put there again
pub set_there : {A : Type 0} (xs : List A) (p : ℕ) (x : A) → slice_get xs p ≡ Some x → slice_set xs p x ≡ xs
set_there [] p x h = refl
set_there (a ∷ xs) zero x h = let is : x ≡ a = cc in ap (λ b. b ∷ xs) is
set_there (a ∷ xs) (suc p) x h = ap (λ l. a ∷ l) (set_there xs p x h)
