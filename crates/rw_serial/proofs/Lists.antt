-- Lists that give one element for each process, and single changes of them.
use Rattle.std.proofs.Common.{◌≡◌, ◌≢◌, ℕ, zero, suc, ◌+◌, ◌<◌, ◌≤◌, List, [], ◌∷◌, ◌++◌, refl, sym, ◌∙◌, ap, subst, arith, Some, map, length, get_or, add-zero}
use Rattle.std.specs.declared.cmp.Ordering.{Ordering}
use Rattle.std.specs.List.{slice_get, slice_set}
use Rattle.std.proofs.lemmas.List.{map-set, get_or-map}
use Rattle.rw_vt.specs.Order.{copies}
use Rattle.rw_vt.specs.System.{map_from, flatten}
use Rattle.rw_vt.proofs.Sorting.{IsExactOrder, copies-append}

-- a push into the list at p, seen through f
pub pushed_at : {V X : Type 0} (f : V → List X) (js : List V) (p : ℕ) (j v : V) (e : X) → p < length js → j ≡ get_or js p j → f v ≡ f j ++ e ∷ [] → map f (slice_set js p v) ≡ slice_set (map f js) p (get_or (map f js) p [] ++ e ∷ [])
pushed_at f js p j v e within read is =
    map-set f js p v ∙ ap (λ w. slice_set (map f js) p w) (is ∙ ap (λ w. w ++ e ∷ []) (sym (get_or-map f js p j [] within ∙ ap f (sym read))))

pub length-map_from : {A C : Type 0} (k : ℕ) (f : ℕ → A → C) (xs : List A) → length (map_from k f xs) ≡ length xs
length-map_from k f [] = refl
length-map_from k f (x ∷ xs) = ap suc (length-map_from (k + 1) f xs)

-- what stands at i
pub there_below : {A : Type 0} (xs : List A) (i : ℕ) → i < length xs → (x : A) × (slice_get xs i ≡ Some x)
there_below [] i h = absurd (omega arith)
there_below (y ∷ xs) zero h = (y, refl)
there_below (y ∷ xs) (suc i) h = there_below xs i (omega arith)

-- what is read there is what stands there
pub read_there : {A : Type 0} (xs : List A) (i : ℕ) (x y : A) → x ≡ get_or xs i x → slice_get xs i ≡ Some y → x ≡ y
read_there [] i x y read there = cc
read_there (z ∷ xs) zero x y read there = cc
read_there (z ∷ xs) (suc i) x y read there = read_there xs i x y read there

pub get_map_from : {A C : Type 0} (k i j : ℕ) (f : ℕ → A → C) (xs : List A) (x : A) → slice_get xs i ≡ Some x → j ≡ k + i → slice_get (map_from k f xs) i ≡ Some (f j x)
get_map_from k i j f [] x h e = cc
get_map_from k zero j f (y ∷ xs) x h e = let same : j ≡ k = e ∙ add-zero k in let is : y ≡ x = cc in rw (same, is) refl
get_map_from k (suc i) j f (y ∷ xs) x h e = get_map_from (k + 1) i j f xs x h (omega arith)

-- two families that agree at each place give the same list
pub map_from_same : {A C : Type 0} (k : ℕ) (f g : ℕ → A → C) (xs : List A) → ((i j : ℕ) (x : A) → slice_get xs i ≡ Some x → j ≡ k + i → f j x ≡ g j x) → map_from k f xs ≡ map_from k g xs
map_from_same k f g [] h = refl
map_from_same k f g (x ∷ xs) h = joined (h 0 k x refl (omega arith)) (map_from_same (k + 1) f g xs (λ i j y m e. h (suc i) j y m (omega arith)))
  where
    joined : {C : Type 0} {a b : C} {ys bs : List C} → a ≡ b → ys ≡ bs → (a ∷ ys) ≡ (b ∷ bs)
    joined p q = cc

-- a write at one place, where the family changes there alone
pub map_from_set : {A C : Type 0} (k i : ℕ) (f g : ℕ → A → C) (xs : List A) (x : A) (v : C) → slice_get xs i ≡ Some x
    → g (k + i) x ≡ v → ((j : ℕ) (y : A) → j ≢ k + i → f j y ≡ g j y) → slice_set (map_from k f xs) i v ≡ map_from k g xs
map_from_set k i f g [] x v h here others = cc
map_from_set {A} {C} k zero f g (y ∷ xs) x v h here others =
    joined (ap (λ w. g k w) is ∙ subst (λ n. g n x ≡ v) (add-zero k) here) (map_from_same (k + 1) f g xs (λ i j z m e. others j z (λ q. omega arith)))
  where
    is : y ≡ x
    is = cc

    joined : {b : C} {ys bs : List C} → b ≡ v → ys ≡ bs → (v ∷ ys) ≡ (b ∷ bs)
    joined p q = cc
map_from_set {A} {C} k (suc i) f g (y ∷ xs) x v h here others =
    joined (others k y (λ q. omega arith)) (map_from_set (k + 1) i f g xs x v h (subst (λ n. g n x ≡ v) shift here) (λ j z ne. others j z (λ q. ne (omega arith))))
  where
    shift : k + suc i ≡ (k + 1) + i
    shift = omega arith

    joined : {a b : C} {ys bs : List C} → a ≡ b → ys ≡ bs → (a ∷ ys) ≡ (b ∷ bs)
    joined p q = cc

-- a list of lists, as a family
abbrev pub at_list : {E : Type 0} → List (List E) → ℕ → List E
at_list js q = get_or js q []

pub as_family : {A E : Type 0} (k : ℕ) (xs : List A) (js : List (List E)) (f : ℕ → List E) → length js ≡ length xs → ((i : ℕ) → f (k + i) ≡ get_or js i []) → js ≡ map_from k (λ q _. f q) xs
as_family k [] [] f l h = refl
as_family k [] (j ∷ js) f l h = cc
as_family k (x ∷ xs) [] f l h = cc
as_family k (x ∷ xs) (j ∷ js) f l h = joined (sym (subst (λ n. f n ≡ j) (add-zero k) (h 0))) (as_family (k + 1) xs js f (omega arith) (λ i. subst (λ n. f n ≡ get_or js i []) (shift i) (h (suc i))))
  where
    shift : (i : ℕ) → k + suc i ≡ (k + 1) + i
    shift i = omega arith

    joined : {C : Type 0} {a b : C} {ys bs : List C} → a ≡ b → ys ≡ bs → (a ∷ ys) ≡ (b ∷ bs)
    joined p q = cc

-- what one place counts, the whole counts
pub copies_place : {A E : Type 0} {cmp : E → E → Ordering} (o : IsExactOrder cmp) (e : E) (k i : ℕ) (f : ℕ → A → List E) (xs : List A) (x : A) → slice_get xs i ≡ Some x
    → copies cmp e (f (k + i) x) ≤ copies cmp e (flatten (map_from k f xs))
copies_place o e k i f [] x m = cc
copies_place {cmp} o e k zero f (y ∷ xs) x m =
    let is : y ≡ x = cc in
    let here : copies cmp e (f (k + 0) x) ≡ copies cmp e (f k y) = rw (add-zero, is) refl in
    omega (arith, here, copies-append o e (f k y) (flatten (map_from (k + 1) f xs)))
copies_place {cmp} o e k (suc i) f (y ∷ xs) x m =
    let rest = copies_place o e (k + 1) i f xs x m in
    let shift : k + suc i ≡ (k + 1) + i = omega arith in
    let here = ap (λ n. copies cmp e (f n x)) shift in
    omega (arith, rest, here, copies-append o e (f k y) (flatten (map_from (k + 1) f xs)))

-- a family that counts more at one place counts more joined
pub copies_joined_more : {A E : Type 0} {cmp : E → E → Ordering} (o : IsExactOrder cmp) (e : E) (more : ℕ) (k i : ℕ) (f g : ℕ → A → List E) (xs : List A) (x : A) → slice_get xs i ≡ Some x
    → copies cmp e (g (k + i) x) ≡ copies cmp e (f (k + i) x) + more → ((j : ℕ) (y : A) → j ≢ k + i → g j y ≡ f j y)
    → copies cmp e (flatten (map_from k g xs)) ≡ copies cmp e (flatten (map_from k f xs)) + more
copies_joined_more o e more k i f g [] x m here others = cc
copies_joined_more {A} {E} {cmp} o e more k zero f g (y ∷ xs) x m here others =
    let is : y ≡ x = cc in
    let first : copies cmp e (g k y) ≡ copies cmp e (f k y) + more = rw is (subst (λ n. copies cmp e (g n x) ≡ copies cmp e (f n x) + more) (add-zero k) here) in
    let same : map_from (k + 1) g xs ≡ map_from (k + 1) f xs = map_from_same (k + 1) g f xs (λ i j z m e. others j z (λ q. omega arith)) in
    let tails = ap (λ l. copies cmp e (flatten l)) same in
    copies-append o e (g k y) (flatten (map_from (k + 1) g xs)) ∙ omega (arith, first, tails, copies-append o e (f k y) (flatten (map_from (k + 1) f xs)))
copies_joined_more {A} {E} {cmp} o e more k (suc i) f g (y ∷ xs) x m here others =
    let first = ap (λ l. copies cmp e l) (others k y (λ q. omega arith)) in
    let tails = copies_joined_more o e more (k + 1) i f g xs x m (subst (λ n. copies cmp e (g n x) ≡ copies cmp e (f n x) + more) shift here) (λ j z ne. others j z (λ q. ne (omega arith))) in
    copies-append o e (g k y) (flatten (map_from (k + 1) g xs)) ∙ omega (arith, first, tails, copies-append o e (f k y) (flatten (map_from (k + 1) f xs)))
  where
    shift : k + suc i ≡ (k + 1) + i
    shift = omega arith
