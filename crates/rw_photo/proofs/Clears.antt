-- Telling each edge but one, edge by edge.
use Rattle.std.proofs.Common.{◌≡◌, ◌∙◌, ℕ, zero, suc, ◌+◌, true, false, List, [], ◌∷◌, ◌++◌, refl, sym, ap, arith, length, length-append, append_assoc}
use Rattle.std.specs.Prelude.{filter, not, nat_eq}
use Rattle.std.specs.List.{range_with_len}
use Rattle.std.proofs.lemmas.List.Elements.{filter-append}
use Rattle.rw_vt.specs.Words.{Count, Process, Time}
use Rattle.rw_vt.specs.System.{map_from}
use Rattle.rw_vt.specs.declared.event.Event.{Event}
use Rattle.rw_numbers.specs.Words.{Object}
use Rattle.rw_photo.specs.declared.body.Body.{Body}
use Rattle.rw_photo.specs.declared.body.Body.TheVariants.{Clear}
use Rattle.rw_photo.specs.Counts.{plus}

-- the edges below n but g
abbrev pub below_but : ℕ → Process → List Process
below_but n g = filter (λ edge. not (nat_eq edge g)) (range_with_len 0 n)

-- what one edge is told
abbrev pub clear_from : Process → Count → Time → Object → ℕ → Process → Event Body
clear_from p n time o i edge =
    record { time = time; source = p + 1; number = plus n i; to = edge; body = Clear o }

-- those are told
abbrev pub clears_below : ℕ → Process → Count → Time → Object → Process → List (Event Body)
clears_below m p n time o g = map_from 0 (clear_from p n time o) (below_but m g)

map_from-more : {A C : Type 0} (f : ℕ → A → C) (k m : ℕ) (xs : List A) (x : A) → k + length xs ≡ m → map_from k f (xs ++ x ∷ []) ≡ map_from k f xs ++ f m x ∷ []
map_from-more f k m [] x is = let at : k ≡ m = omega arith in ap (λ i. f i x ∷ []) at
map_from-more f k m (y ∷ ys) x is = ap (λ l. f k y ∷ l) (map_from-more f (k + 1) m ys x (omega arith))

length-map_from : {A C : Type 0} (f : ℕ → A → C) (k : ℕ) (xs : List A) → length (map_from k f xs) ≡ length xs
length-map_from f k [] = refl
length-map_from f k (x ∷ xs) = ap suc (length-map_from f (k + 1) xs)

range-more : (a n m : ℕ) → a + n ≡ m → range_with_len a (suc n) ≡ range_with_len a n ++ m ∷ []
range-more a zero m is = let at : a ≡ m = omega arith in ap (λ k. k ∷ []) at
range-more a (suc n) m is = ap (λ l. a ∷ l) (range-more (a + 1) n m (omega arith))

-- one edge more, which is told or not
split : (n : ℕ) (g : Process) → below_but (n + 1) g ≡ below_but n g ++ filter (λ edge. not (nat_eq edge g)) (n ∷ [])
split n g =
    let next : n + 1 ≡ suc n = omega arith in
    ap (λ m. below_but m g) next
    ∙ (ap (filter (λ edge. not (nat_eq edge g))) (range-more 0 n n (omega arith))
    ∙ filter-append (λ edge. not (nat_eq edge g)) (range_with_len 0 n) (n ∷ []))

pub told : (p : Process) (n : Count) (time : Time) (o : Object) (g : Process) (m k : ℕ) → nat_eq m g ≡ false → k ≡ length (clears_below m p n time o g)
    → clears_below (m + 1) p n time o g ≡ clears_below m p n time o g ++ clear_from p n time o k m ∷ []
told p n time o g m k other count =
    let kept : filter (λ edge. not (nat_eq edge g)) (m ∷ []) ≡ m ∷ [] = rw other refl in
    let all : length (clears_below m p n time o g) ≡ length (below_but m g) = length-map_from (clear_from p n time o) 0 (below_but m g) in
    ap (map_from 0 (clear_from p n time o)) (split m g ∙ ap (λ l. below_but m g ++ l) kept)
    ∙ map_from-more (clear_from p n time o) 0 k (below_but m g) m (omega arith)

pub untold : (p : Process) (n : Count) (time : Time) (o : Object) (g : Process) (m : ℕ) → nat_eq m g ≡ true
    → clears_below (m + 1) p n time o g ≡ clears_below m p n time o g
untold p n time o g m same =
    let left : filter (λ edge. not (nat_eq edge g)) (m ∷ []) ≡ [] = rw same refl in
    ap (map_from 0 (clear_from p n time o)) (split m g ∙ (ap (λ l. below_but m g ++ l) left ∙ append-nil (below_but m g)))
  where
    append-nil : (xs : List ℕ) → xs ++ [] ≡ xs
    append-nil [] = refl
    append-nil (x ∷ xs) = ap (λ l. x ∷ l) (append-nil xs)

-- what a loop over the edges keeps: whom it has told, and how many
pub record HasTold (m : ℕ) (p : Process) (n : Count) (time : Time) (o : Object) (g : Process) (count : ℕ) (before now : List (Event Body)) : Type 0 where
  pub items : now ≡ before ++ clears_below m p n time o g
  pub count_is : count ≡ length (clears_below m p n time o g)

pub one-told : (p : Process) (n : Count) (time : Time) (o : Object) (g : Process) (m k : ℕ) (before now then : List (Event Body)) → nat_eq m g ≡ false
    → HasTold m p n time o g k before now → then ≡ now ++ clear_from p n time o k m ∷ [] → HasTold (m + 1) p n time o g (k + 1) before then
one-told p n time o g m k before now then other h is =
    let more : clears_below (m + 1) p n time o g ≡ clears_below m p n time o g ++ clear_from p n time o k m ∷ [] = told p n time o g m k other h.count_is in
    record {
      items = is ∙ (ap (λ l. l ++ clear_from p n time o k m ∷ []) h.items ∙ rw more (append_assoc before (clears_below m p n time o g) (clear_from p n time o k m ∷ [])));
      count_is = rw more (omega (arith, h.count_is, length-append (clears_below m p n time o g) (clear_from p n time o k m ∷ [])));
    }

pub none-told : (p : Process) (n : Count) (time : Time) (o : Object) (g : Process) (m k : ℕ) (before now : List (Event Body)) → nat_eq m g ≡ true
    → HasTold m p n time o g k before now → HasTold (m + 1) p n time o g k before now
none-told p n time o g m k before now same h =
    let stays : clears_below (m + 1) p n time o g ≡ clears_below m p n time o g = untold p n time o g m same in
    record { items = h.items ∙ ap (λ l. before ++ l) (sym stays); count_is = h.count_is ∙ ap length (sym stays) }
