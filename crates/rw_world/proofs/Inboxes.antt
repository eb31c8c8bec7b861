-- Events sorted out by destination, and processes opened one after another.
use Rattle.std.proofs.Common.{◌≡◌, ℕ, zero, suc, ◌+◌, ◌<◌, Bool, true, false, cond, List, [], ◌∷◌, ◌++◌, length, map, take, drop, get_or, refl, sym, ap, ◌∙◌, subst, arith, append-nil, append_assoc, inl, inr, Some}
use Rattle.std.specs.Prelude.{◌⊎◌, ◌==◌, filter, slice_get, slice_set}
use Rattle.std.specs.List.{All}
use Rattle.std.proofs.lemmas.Bool.{cases_eq, eqb-true, eq-eqb, ne_eqb}
use Rattle.std.proofs.lemmas.List.{map-set, get_or-map, get_or-set_same, get_or-set_other, take_more}
use Rattle.std.proofs.lemmas.List.Elements.{All-nil, All-cons, All-head, All-tail, filter-append}
use Rattle.rw_vt.specs.declared.event.Event.{Event}
use Rattle.rw_vt.specs.System.{map_from}

-- a push into the list at p, seen through f
pub pushed_at : {V X : Type 0} (f : V → List X) (js : List V) (p : ℕ) (j v : V) (e : X) → p < length js → j ≡ get_or js p j → f v ≡ f j ++ e ∷ [] → map f (slice_set js p v) ≡ slice_set (map f js) p (get_or (map f js) p [] ++ e ∷ [])
pushed_at f js p j v e within read is =
    map-set f js p v ∙ ap (λ w. slice_set (map f js) p w) (is ∙ ap (λ w. w ++ e ∷ []) (sym (get_or-map f js p j [] within ∙ ap f (sym read))))

-- the events to q, one event further
module _ {B : Type 0} (q : ℕ) (es : List (Event B)) (k : ℕ) (e : Event B) (within : k < length es) (read : e ≡ get_or es k e) where
  more : filter (λ a. a.to == q) (take (k + 1) es) ≡ filter (λ a. a.to == q) (take k es) ++ cond (e.to == q) (e ∷ []) []
  more =
      ap (filter (λ a. a.to == q)) (take_more es k e within)
      ∙ filter-append (λ a. a.to == q) (take k es) (get_or es k e ∷ [])
      ∙ ap (λ a. filter (λ a. a.to == q) (take k es) ++ cond (a.to == q) (a ∷ []) []) (sym read)

  pub more_here : e.to ≡ q → filter (λ a. a.to == q) (take (k + 1) es) ≡ filter (λ a. a.to == q) (take k es) ++ e ∷ []
  more_here h = more ∙ ap (λ b. filter (λ a. a.to == q) (take k es) ++ cond b (e ∷ []) []) (eq-eqb e.to q h)

  pub more_elsewhere : (e.to ≡ q → ⊥) → filter (λ a. a.to == q) (take (k + 1) es) ≡ filter (λ a. a.to == q) (take k es)
  more_elsewhere h = more ∙ ap (λ b. filter (λ a. a.to == q) (take k es) ++ cond b (e ∷ []) []) (ne_eqb e.to q h) ∙ append-nil (filter (λ a. a.to == q) (take k es))

-- all of these have a fact, and those to q go to q
pub all_to : {B : Type 0} (P : Event B → Type 0) (q : ℕ) (es : List (Event B)) → All P es → All (λ e. P e × (e.to ≡ q)) (filter (λ e. e.to == q) es)
all_to P q [] h = All-nil (λ e. P e × (e.to ≡ q))
all_to P q (e ∷ es) h = go (e.to == q) refl (all_to P q es (All-tail P e es h))
  where
    go : (b : Bool) → (e.to == q) ≡ b → All (λ e. P e × (e.to ≡ q)) (filter (λ e. e.to == q) es) → All (λ e. P e × (e.to ≡ q)) (cond b (e ∷ filter (λ e. e.to == q) es) (filter (λ e. e.to == q) es))
    go true t rest = All-cons (λ e. P e × (e.to ≡ q)) e (filter (λ e. e.to == q) es) (All-head P e es h, eqb-true e.to q t) rest
    go false t rest = rest

-- the first of what is left after n
pub drop_head : {A : Type 0} (xs : List A) (n : ℕ) (x : A) (rest : List A) → drop n xs ≡ x ∷ rest → (slice_get xs n ≡ Some x) × (drop (n + 1) xs ≡ rest)
drop_head [] zero x rest h = cc
drop_head [] (suc n) x rest h = cc
drop_head (a ∷ xs) zero x rest h = (let is : a ≡ x = cc in ap Some is, let is : xs ≡ rest = cc in is)
drop_head (a ∷ xs) (suc n) x rest h = let r = drop_head xs n x rest h in let e : suc n + 1 ≡ suc (n + 1) = omega arith in (r.0, ap (λ i. drop i (a ∷ xs)) e ∙ r.1)

-- one more in front of what is still to come
opened_more : {A C : Type 0} (f : ℕ → A → C) (made : List C) (n : ℕ) (x : A) (rest : List A) → made ++ map_from n f (x ∷ rest) ≡ (made ++ f n x ∷ []) ++ map_from (n + 1) f rest
opened_more f made n x rest = sym (append_assoc made (f n x ∷ []) (map_from (n + 1) f rest))

-- one more made of the first of what is still to come
pub made_next : {A C : Type 0} (f : ℕ → A → C) (made now all : List C) (n : ℕ) (x : A) (p : C) (rest items : List A) → now ≡ made ++ p ∷ [] → p ≡ f n x → items ≡ x ∷ rest → made ++ map_from n f items ≡ all
    → now ++ map_from (n + 1) f rest ≡ all
made_next f made now all n x p rest items is p_is items_are known =
    ap (λ l. l ++ map_from (n + 1) f rest) (is ∙ ap (λ a. made ++ a ∷ []) p_is)
    ∙ sym (opened_more f made n x rest)
    ∙ ap (λ l. made ++ map_from n f l) (sym items_are)
    ∙ known

-- of what is sorted out, the first is what goes to the next process
pub first_of : {V X : Type 0} (f : V → List X) (boxes : List V) (b : V) (rest : List V) (want : ℕ → List X) → boxes ≡ b ∷ rest → ((k : ℕ) → k < length boxes → get_or (map f boxes) k [] ≡ want k) → f b ≡ want 0
first_of f boxes b rest want is h = sym (ap (λ l. get_or (map f l) 0 []) is) ∙ h 0 (subst (λ l. 0 < length l) (sym is) (omega arith))

-- and the others are what goes to those that follow
pub rest_of : {V X : Type 0} (f : V → List X) (boxes : List V) (b : V) (rest : List V) (want : ℕ → List X) → boxes ≡ b ∷ rest → ((k : ℕ) → k < length boxes → get_or (map f boxes) k [] ≡ want k) → (k : ℕ) → k < length rest → get_or (map f rest) k [] ≡ want (suc k)
rest_of f boxes b rest want is h k within = sym (ap (λ l. get_or (map f l) (suc k) []) is) ∙ h (suc k) (subst (λ l. suc k < length l) (sym is) (omega arith))

-- events sorted out, one event further
pub sorted_more : {B : Type 0} (boxes : List (List (Event B))) (count : ℕ) (es : List (Event B)) (k : ℕ) (e : Event B) → length boxes ≡ count → e.to < count → k < length es → e ≡ get_or es k e
    → ((q : ℕ) → q < count → get_or boxes q [] ≡ filter (λ a. a.to == q) (take k es))
    → (q : ℕ) → q < count → get_or (slice_set boxes e.to (get_or boxes e.to [] ++ e ∷ [])) q [] ≡ filter (λ a. a.to == q) (take (k + 1) es)
sorted_more boxes count es k e long inside within read known q at = go (cases_eq e.to q)
  where
    go : (e.to ≡ q) ⊎ (e.to ≡ q → ⊥) → get_or (slice_set boxes e.to (get_or boxes e.to [] ++ e ∷ [])) q [] ≡ filter (λ a. a.to == q) (take (k + 1) es)
    go (inl here) =
        ap (λ n. get_or (slice_set boxes e.to (get_or boxes e.to [] ++ e ∷ [])) n []) (sym here)
        ∙ get_or-set_same boxes e.to (get_or boxes e.to [] ++ e ∷ []) [] (omega arith)
        ∙ ap (λ n. get_or boxes n [] ++ e ∷ []) here
        ∙ ap (λ l. l ++ e ∷ []) (known q at)
        ∙ sym (more_here q es k e within read here)
    go (inr other) =
        get_or-set_other boxes e.to q (get_or boxes e.to [] ++ e ∷ []) [] (λ h. other (sym h))
        ∙ known q at
        ∙ sym (more_elsewhere q es k e within read other)
