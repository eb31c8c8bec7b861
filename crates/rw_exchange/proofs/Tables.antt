-- Tables of rings, by row and column.
use lib.Seq.{map-set_same}
use Rattle.std.proofs.Common.{◌≡◌, ◌≢◌, ℕ, suc, ◌<◌, List, [], ◌∷◌, ◌++◌, map, length, get_or, set, sym, refl, ap, ◌∙◌, Vec, All, Option, None, is_some, not, ◌==◌, subst, arith}
use Rattle.std.proofs.lemmas.List.{map-set, map_push, get_or-map, get_or_push, get_or_append_left, length-append, get_or-set_other, get_or-set_same, length-map}
use Rattle.std.proofs.lemmas.List.Elements.{All-set, All-push, All-same}
use Rattle.std.specs.declared.alloc.Global.{Global}
use native.Mathlib.Decide.{ℕ_discrete}
use Rattle.rw_exchange.specs.Rings.{Ring, push_each, AllButOwn}

module _ {A B : Type 0} (f : A → B) where
  abbrev pub table : List (Vec A Global) → List (List B)
  table rows = map (λ (r : Vec A Global). map f r.items) rows

  pub table_push : (rows : List (Vec A Global)) (k : ℕ) (old new : Vec A Global) (x : A) → k < length rows → old ≡ get_or rows k old → new.items ≡ old.items ++ x ∷ []
      → table (set rows k new) ≡ set (table rows) k (get_or (table rows) k [] ++ f x ∷ [])
  table_push rows k old new x lt at more =
      let F : Vec A Global → List B = λ r. map f r.items in
      let here : get_or (table rows) k [] ≡ F old = get_or-map F rows k old [] lt ∙ ap F (sym at) in
      let longer : F new ≡ F old ++ f x ∷ [] = ap (map f) more ∙ map_push f old.items x in
      map-set F rows k new ∙ ap (set (table rows) k) (longer ∙ ap (λ y. y ++ f x ∷ []) (sym here))

all_but_at : (own : ℕ) (xs : List (Option Ring)) (x : Option Ring) → AllButOwn own xs → is_some x ≡ not (length xs == own) → (k : ℕ) → k < length (xs ++ x ∷ []) → Dec (k ≡ length xs) → is_some (get_or (xs ++ x ∷ []) k None) ≡ not (k == own)
all_but_at own xs x all mine k lt (yes e) = ap is_some (get_or_push xs x None k (sym e)) ∙ (mine ∙ ap (λ n. not (n == own)) (sym e))
all_but_at own xs x all mine k lt (no n) = let l : k < length xs = omega (arith, length-append xs (x ∷ [])) in ap is_some (get_or_append_left xs (x ∷ []) None k l) ∙ all k l

pub all_but_more : (own : ℕ) (xs : List (Option Ring)) (x : Option Ring) → AllButOwn own xs → is_some x ≡ not (length xs == own) → AllButOwn own (xs ++ x ∷ [])
all_but_more own xs x all mine k lt = all_but_at own xs x all mine k lt (ℕ_discrete k (length xs))

module _ {X : Type 0} where
  pub push_none : (cs : List (List X)) → push_each cs [] ≡ cs
  push_none [] = refl
  push_none (c ∷ cs) = refl

  pub length-push_each : (cs : List (List X)) (xs : List X) → length (push_each cs xs) ≡ length cs
  length-push_each [] xs = refl
  length-push_each (c ∷ cs) [] = refl
  length-push_each (c ∷ cs) (x ∷ xs) = ap suc (length-push_each cs xs)

  pub push_more : (cs : List (List X)) (xs : List X) (x : X) → length xs < length cs → set (push_each cs xs) (length xs) (get_or (push_each cs xs) (length xs) [] ++ x ∷ []) ≡ push_each cs (xs ++ x ∷ [])
  push_more [] xs x lt = absurd (omega arith)
  push_more (c ∷ cs) [] x lt = ap (λ ds. (c ++ x ∷ []) ∷ ds) (sym (push_none cs))
  push_more (c ∷ cs) (y ∷ ys) x lt = ap (λ ds. (c ++ y ∷ []) ∷ ds) (push_more cs ys x (omega arith))

pub all_push : {A : Type 0} (P : A → Type 0) (rows : List (Vec A Global)) (k : ℕ) (old new : Vec A Global) (x : A) → k < length rows → old ≡ get_or rows k old → new.items ≡ old.items ++ x ∷ []
    → P x → All (λ (r : Vec A Global). All P r.items) rows → All (λ (r : Vec A Global). All P r.items) (set rows k new)
all_push {A = A} P rows k old new x lt at more p all =
    let mine : All P old.items = All-same P _ _ (ap (λ (r : Vec A Global). r.items) at) (all k old lt) in
    All-set (λ (r : Vec A Global). All P r.items) rows k new (All-same P _ _ more (All-push P old.items x mine p)) all

-- one more end in a row and in its column
pub row_more : {X : Type 0} (table table' : List (List X)) (xs : List X) (x : X) (k : ℕ) (start : List (List X)) → table ≡ push_each start xs → length xs ≡ k → k < length start
    → table' ≡ set table k (get_or table k [] ++ x ∷ []) → table' ≡ push_each start (xs ++ x ∷ [])
row_more table table' xs x k start is long lt more =
    more ∙ (ap (λ t. set t k (get_or t k [] ++ x ∷ [])) is ∙ (ap (λ n. set (push_each start xs) n (get_or (push_each start xs) n [] ++ x ∷ [])) (sym long) ∙ push_more start xs x (omega arith)))

module _ {A B : Type 0} (f : A → B) (rows : List (Vec A Global)) (k : ℕ) (old new : Vec A Global) (i : ℕ) (x was : A) (lt : k < length rows) (at : old ≡ get_or rows k old) (changed : new.items ≡ set old.items i x) where
  -- a change that f does not see
  pub cells_stay : i < length old.items → was ≡ get_or old.items i was → f x ≡ f was → table f (set rows k new) ≡ table f rows
  cells_stay within read same =
      let F : Vec A Global → List B = λ r. map f r.items in
      let row : F new ≡ F old = ap (map f) changed ∙ map-set_same f old.items i x was (same ∙ ap f read) in
      map-set_same F rows k new old (row ∙ ap F at)

  pub rows_stay : (j : ℕ) (d : List B) → j ≢ k → get_or (table f (set rows k new)) j d ≡ get_or (table f rows) j d
  rows_stay j d other = ap (λ t. get_or t j d) (map-set (λ (r : Vec A Global). map f r.items) rows k new) ∙ get_or-set_other (table f rows) k j (map f new.items) d other

  pub places_stay : (m : ℕ) (d : B) → m ≢ i → get_or (get_or (table f (set rows k new)) k []) m d ≡ get_or (get_or (table f rows) k []) m d
  places_stay m d other =
      let F : Vec A Global → List B = λ r. map f r.items in
      let here : get_or (table f (set rows k new)) k [] ≡ F new = ap (λ t. get_or t k []) (map-set F rows k new) ∙ get_or-set_same (table f rows) k (F new) [] (subst (λ n. k < n) (sym (length-map rows F)) lt) in
      let there : get_or (table f rows) k [] ≡ F old = get_or-map F rows k old [] lt ∙ ap F (sym at) in
      ap (λ t. get_or t m d) here ∙ (ap (λ t. get_or (map f t) m d) changed ∙ (ap (λ t. get_or t m d) (map-set f old.items i x) ∙ (get_or-set_other (map f old.items) i m (f x) d other ∙ ap (λ t. get_or t m d) (sym there))))
