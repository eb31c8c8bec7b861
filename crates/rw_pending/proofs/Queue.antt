-- What is least in a sorted list and in a heap, and that only order changes.
use Rattle.std.proofs.Common.{◌≡◌, ℕ, zero, suc, drop, ◌+◌, false, List, [], ◌∷◌, ◌++◌, refl, sym, ◌∙◌, ap, subst, arith, true≢false, Option, Some, None, Bor, map, append_assoc, get_or, All, IfSome, IsPermutation}
use Rattle.std.specs.declared.cmp.Ordering.{Ordering}
use Rattle.std.specs.declared.cmp.Ordering.TheVariants.{Less, Equal, Greater}
use Rattle.std.specs.declared.cmp.Reverse.{Reverse}
use Rattle.std.specs.Option.{option_copied, option_map, option_to_list}
use Rattle.std.specs.List.{slice_get}
use Rattle.std.proofs.lemmas.List.{map-append}
use Rattle.std.specs.Ordering.{is_gt, is_lt, ordering_reverse}
use Rattle.std.specs.Cmp.{IsTotalOrder}
use Rattle.std.specs.BinaryHeap.{IsHeap, IsUpperBound, PopsGreatest}
use Rattle.std.specs.List.{sum_by}
use Rattle.std.specs.List.Sorted.{IsSorted}
use Rattle.std.proofs.lemmas.List.Recursion.{is_sum_by}
use Rattle.std.proofs.lemmas.List.MinMax.{ranks_by}
use Rattle.std.proofs.lemmas.List.Sorted.{sorted_far, sum_by-IsPermutation, IsPermutation-trans, IsPermutation-append_right, IsPermutation-map, IsPermutation-middle}
use Rattle.std.proofs.lemmas.List.Elements.{All-cons, All-map, All-nil, All-tail, All-weaker, All-from_recursion}
use Rattle.rw_vt.specs.Order.{AtMost, one_if_same, copies}

not_below : (r : Ordering) → is_lt r ≡ false → is_gt (ordering_reverse r) ≡ false
not_below Less h = absurd (true≢false h)
not_below Equal h = refl
not_below Greater h = refl

module _ {E : Type 0} {cmp : E → E → Ordering} (o : IsTotalOrder cmp) where
  -- what is not less is not exceeded
  at_most_from_not_less : (x y : E) → is_lt (cmp y x) ≡ false → AtMost cmp x y
  at_most_from_not_less x y h = ap is_gt (o.antisymm x y) ∙ not_below (cmp y x) h

  pub at_most_self : (x : E) → AtMost cmp x x
  at_most_self x = by_answer (cmp x x) (o.antisymm x x)
    where
      by_answer : (r : Ordering) → r ≡ ordering_reverse r → is_gt r ≡ false
      by_answer Less h = refl
      by_answer Equal h = refl
      by_answer Greater h = cc

  pub alone_least : (x : E) → All (AtMost cmp x) (x ∷ [])
  alone_least x = All-cons (AtMost cmp x) x [] (at_most_self x) (All-nil (AtMost cmp x))

  -- a sorted list begins with its least element
  pub sorted_least : (x : E) (xs : List E) → IsSorted cmp (x ∷ xs) → All (AtMost cmp x) (x ∷ xs)
  sorted_least x xs up k d l = at_most_from_not_less x (get_or (x ∷ xs) k d) (sorted_far (λ a b. is_lt (cmp a b)) (ranks_by o (λ a. a)) (x ∷ xs) up 0 k d (omega arith) l)

  IsSorted-tail : (x : E) (xs : List E) → IsSorted cmp (x ∷ xs) → IsSorted cmp xs
  IsSorted-tail x xs up k d l h = let next : suc k + 1 ≡ suc (k + 1) = omega arith in subst (λ n. is_lt (cmp (get_or (x ∷ xs) n d) (get_or xs k d)) ≡ false) next (up (suc k) d (omega arith) (omega arith))

  -- what is left once the first is taken
  pub IsSorted-rest : (next : Option E) (xs rest : List E) → xs ≡ option_to_list next ++ rest → IsSorted cmp xs → IsSorted cmp rest
  IsSorted-rest None xs rest is up = subst (IsSorted cmp) is up
  IsSorted-rest (Some x) xs rest is up = IsSorted-tail x rest (subst (IsSorted cmp) is up)

  -- what comes first of a sorted list is at most all that follows
  pub sorted_first : (next : Option E) (xs rest : List E) → xs ≡ option_to_list next ++ rest → IsSorted cmp xs → IfSome next (λ x. All (AtMost cmp x) rest)
  sorted_first None xs rest is up = tt
  sorted_first (Some x) xs rest is up = All-tail (AtMost cmp x) x rest (sorted_least x rest (subst (IsSorted cmp) is up))

  -- what stands first in a sorted list is at most all that it has
  pub sorted_front : (first : Option (Bor E)) (xs : List E) → option_copied first ≡ slice_get xs 0 → IsSorted cmp xs → IfSome first (λ e. All (AtMost cmp e.now) xs)
  sorted_front None xs is up = tt
  sorted_front (Some e) [] is up = cc
  sorted_front (Some e) (x ∷ xs) is up = let same : x ≡ e.now = cc in subst (λ w. All (AtMost cmp w) (x ∷ xs)) same (sorted_least x xs up)

  pub sorted_next : (n : ℕ) (xs : List E) → IsSorted cmp (drop n xs) → IsSorted cmp (drop (suc n) xs)
  sorted_next zero [] up = up
  sorted_next zero (x ∷ xs) up = IsSorted-tail x xs up
  sorted_next (suc n) [] up = up
  sorted_next (suc n) (x ∷ xs) up = sorted_next n xs up

  -- what no element exceeds in the opposite order is the least
  pub top_least : (t : Reverse E) (ts : List (Reverse E)) → IsUpperBound (λ a b. cmp b.0 a.0) t ts → All (AtMost cmp t.0) (map (λ r. r.0) ts)
  top_least t ts h =
      All-map (AtMost cmp t.0) (λ r. r.0) ts
      (All-weaker (λ r. is_lt (cmp r.0 t.0) ≡ false) (λ r. AtMost cmp t.0 r.0) (λ r. at_most_from_not_less t.0 r.0) ts (All-from_recursion (λ r. is_lt (cmp r.0 t.0) ≡ false) ts h))

  pub popped_least : (next : Option (Reverse E)) (ts rest : List (Reverse E)) → IfSome next (λ t. PopsGreatest (λ a b. cmp b.0 a.0) ts t rest) → IsHeap (λ a b. cmp b.0 a.0) ts → IfSome next (λ t. All (AtMost cmp t.0) (map (λ r. r.0) ts))
  popped_least None ts rest greatest heap = tt
  popped_least (Some t) ts rest greatest heap = top_least t ts (greatest heap).1

-- counts do not depend on the order
pub copies-IsPermutation : {E : Type 0} (cmp : E → E → Ordering) (e : E) (xs ys : List E) → IsPermutation xs ys → copies cmp e xs ≡ copies cmp e ys
copies-IsPermutation {E} cmp e xs ys h = as_sum xs ∙ sym (sum_by-IsPermutation (one_if_same cmp e) xs ys h) ∙ sym (as_sum ys)
  where
    as_sum : (zs : List E) → copies cmp e zs ≡ sum_by (one_if_same cmp e) zs
    as_sum zs = is_sum_by (copies cmp e) (one_if_same cmp e) refl (λ z zs. refl) zs

-- what follows from what is known of an element before it is mapped
pub IfSome-option_map : {A B : Type 0} (f : A → B) (P : B → Type 0) (next : Option A) (mapped : Option B) → mapped ≡ option_map f next → IfSome next (λ t. P (f t)) → IfSome mapped P
IfSome-option_map f P None mapped is h = subst (λ r. IfSome r P) (sym is) tt
IfSome-option_map f P (Some t) mapped is h = subst (λ r. IfSome r P) (sym is) h

-- one less in the heap
pub popped : {E : Type 0} (xs : List E) (t : Reverse E) (ts us : List (Reverse E)) → IsPermutation ts (t ∷ us) → IsPermutation (xs ++ map (λ r. r.0) ts) (t.0 ∷ (xs ++ map (λ r. r.0) us))
popped xs t ts us h =
    IsPermutation-trans (xs ++ map (λ r. r.0) ts) (xs ++ t.0 ∷ map (λ r. r.0) us) (t.0 ∷ (xs ++ map (λ r. r.0) us))
    (IsPermutation-append_right xs (map (λ r. r.0) ts) (t.0 ∷ map (λ r. r.0) us) (IsPermutation-map (λ r. r.0) ts (t ∷ us) h))
    (IsPermutation-middle xs t.0 (map (λ r. r.0) us))

-- an element in the opposite order
abbrev pub reversed : {E : Type 0} → E → Reverse E
reversed e = record { 0 = e }

unreversed : {E : Type 0} (es : List E) → map (λ r. r.0) (map reversed es) ≡ es
unreversed [] = refl
unreversed (e ∷ es) = ap (λ l. e ∷ l) (unreversed es)

-- more in the heap
pub pushed : {E : Type 0} (xs es : List E) (ts us : List (Reverse E)) → IsPermutation (ts ++ map reversed es) us → IsPermutation ((xs ++ map (λ r. r.0) ts) ++ es) (xs ++ map (λ r. r.0) us)
pushed xs es ts us h =
    subst (λ l. IsPermutation l (xs ++ map (λ r. r.0) us)) (sym (append_assoc xs (map (λ r. r.0) ts) es))
    (IsPermutation-append_right xs (map (λ r. r.0) ts ++ es) (map (λ r. r.0) us)
    (subst (λ l. IsPermutation l (map (λ r. r.0) us)) (map-append (λ r. r.0) ts (map reversed es) ∙ ap (λ l. map (λ r. r.0) ts ++ l) (unreversed es)) (IsPermutation-map (λ r. r.0) (ts ++ map reversed es) us h)))
