-- What a sort leaves, over an order whose ties are the same.
use Rattle.std.proofs.Common.{◌≡◌, suc, ◌+◌, false, List, [], ◌∷◌, get_or, sym, ◌∙◌, ap, subst, arith, refl, true≢false, IsPermutation}
use Rattle.std.specs.declared.cmp.Ordering.{Ordering}
use Rattle.std.specs.declared.cmp.Ordering.TheVariants.{Less, Equal, Greater}
use Rattle.std.specs.Ordering.{is_gt, is_lt, ordering_reverse}
use Rattle.std.specs.List.{sum_by}
use Rattle.std.specs.List.Sorted.{IsSorted}
use Rattle.std.proofs.lemmas.List.Recursion.{is_sum_by}
use Rattle.std.proofs.lemmas.List.Sorted.{sum_by-IsPermutation}
use Rattle.rw_vt.specs.Order.{AtMost, one_if_same, copies, IsAscending, in_order}
use Rattle.rw_vt.proofs.Sorting.{IsExactOrder, at_most_chain, ascending_settled, copies-in_order, IsAscending-in_order}
use Rattle.rw_vt.proofs.Bags.{Each-nil, Each-cons}

not_lt_back : (r : Ordering) → is_lt r ≡ false → is_gt (ordering_reverse r) ≡ false
not_lt_back Less h = absurd (true≢false h)
not_lt_back Equal h = refl
not_lt_back Greater h = refl

-- counts do not depend on the order
copies-moved : {E : Type 0} (cmp : E → E → Ordering) (e : E) (xs ys : List E) → IsPermutation xs ys → copies cmp e xs ≡ copies cmp e ys
copies-moved {E} cmp e xs ys h = as_sum xs ∙ sym (sum_by-IsPermutation (one_if_same cmp e) xs ys h) ∙ sym (as_sum ys)
  where
    as_sum : (zs : List E) → copies cmp e zs ≡ sum_by (one_if_same cmp e) zs
    as_sum zs = is_sum_by (copies cmp e) (one_if_same cmp e) refl (λ z zs. refl) zs

module _ {E : Type 0} {cmp : E → E → Ordering} (o : IsExactOrder cmp) where
  sorted_tail : (x : E) (xs : List E) → IsSorted cmp (x ∷ xs) → IsSorted cmp xs
  sorted_tail x xs up k d l h = let next : suc k + 1 ≡ suc (k + 1) = omega arith in subst (λ n. is_lt (cmp (get_or (x ∷ xs) n d) (get_or xs k d)) ≡ false) next (up (suc k) d (omega arith) (omega arith))

  sorted_next : (x y : E) (ys : List E) → IsSorted cmp (x ∷ y ∷ ys) → AtMost cmp x y
  sorted_next x y ys up =
      let h : is_lt (cmp (get_or (x ∷ y ∷ ys) (0 + 1) x) x) ≡ false = up 0 x (omega arith) (omega arith) in
      let k : is_lt (cmp y x) ≡ false = h in
      ap is_gt (o.total.antisymm x y) ∙ not_lt_back (cmp y x) k

  sorted_ascending : (xs : List E) → IsSorted cmp xs → IsAscending cmp xs
  sorted_ascending [] up = tt
  sorted_ascending (x ∷ []) up = (Each-nil o (λ y. AtMost cmp x y), tt)
  sorted_ascending (x ∷ y ∷ ys) up =
      let rest = sorted_ascending (y ∷ ys) (sorted_tail x (y ∷ ys) up) in
      let first = sorted_next x y ys up in
      (Each-cons o (λ z. AtMost cmp x z) y ys first (λ z k. at_most_chain o x y z first (rest.0 z k)), rest)

  -- a sort leaves the list in order
  pub sorted_is : (xs ys : List E) → IsPermutation xs ys → IsSorted cmp ys → ys ≡ in_order cmp xs
  sorted_is xs ys moved up = ascending_settled o ys (in_order cmp xs) (sorted_ascending ys up) (IsAscending-in_order o xs) (λ e. sym (copies-moved cmp e xs ys moved) ∙ sym (copies-in_order o e xs))
