-- Lists kept in ascending order: what may be pushed, and where an element stands.
use Rattle.std.proofs.Common.{◌≡◌, ℕ, zero, suc, ◌+◌, ◌<◌, ◌≤◌, Bool, true, false, List, [], ◌∷◌, ◌++◌, length, get_or, drop, refl, sym, ap, ◌∙◌, subst, arith, true≢false, ⊎_elim}
use Rattle.std.specs.List as lists
use Rattle.std.specs.List.{position_or_len}
use Rattle.std.specs.List.Sorted.{IsPartitionedBy, IsPartitionPoint}
use Rattle.std.specs.declared.cmp.Ordering.{Ordering}
use Rattle.std.specs.Ordering.{is_gt, is_eq, is_le, is_lt, is_ge, is_ne}
use Rattle.std.proofs.lemmas.List.{nil_from_length}
use Rattle.std.proofs.lemmas.List.Sums.{position_or_len_is}
use Rattle.rw_vt.specs.Order.{AtMost, Each, IsAscending, has, without}
use Rattle.rw_vt.proofs.Sorting.{IsExactOrder, at_most_chain, tied, IsAscending-append, Has-cons}
use Rattle.rw_vt.proofs.Bags.{Each-nil, Each-cons}
use Rattle.rw_bag.proofs.Edits.{remove_is, has_is}
use Rattle.rw_bag.proofs.Falling.{rises, found, absent_if, without_absent}
use Rattle.rw_bag.proofs.Orderings.{gt_not_le, not_gt_le, ge_not_lt, not_ge_lt, ge_back, not_gt_back, eq_if, not_eq_if}

module _ {E : Type 0} {cmp : E → E → Ordering} (o : IsExactOrder cmp) where
  -- the first leaves, where it is a copy
  pub first_taken : (e x : E) (xs us : List E) → 0 < length xs → x ≡ get_or xs 0 x → is_ne (cmp e x) ≡ false → us ≡ drop 1 xs → xs ≡ e ∷ us
  first_taken e x [] us h is same rest = absurd (omega arith)
  first_taken e x (y ∷ ys) us h is same rest = let copy : e ≡ x = tied o e x (eq_if (cmp e x) same) in let here : e ≡ y = copy ∙ is in ap (λ z. z ∷ ys) (sym here) ∙ ap (λ l. e ∷ l) (sym rest)

  -- what is not less than the last is not less than any
  pub all_below : (e : E) (xs : List E) (n : ℕ) (d : E) → IsAscending cmp xs → n + 1 ≡ length xs → AtMost cmp (get_or xs n d) e → Each cmp (λ y. AtMost cmp y e) xs
  all_below e [] n d up q h = Each-nil o (λ y. AtMost cmp y e)
  all_below e (x ∷ xs) zero d up q h = let none : xs ≡ [] = nil_from_length xs (omega arith) in Each-cons o (λ y. AtMost cmp y e) x xs h (subst (Each cmp (λ y. AtMost cmp y e)) (sym none) (Each-nil o (λ y. AtMost cmp y e)))
  all_below e (x ∷ xs) (suc n) d up q h =
      Each-cons o (λ y. AtMost cmp y e) x xs (at_most_chain o x (get_or xs n d) e (rises o (x ∷ xs) up 0 (suc n) d (omega arith) (omega arith)) h) (all_below e xs n d up.1 (omega arith) h)

  -- what is not less than any goes to the end
  pub pushed : (e : E) (xs : List E) → IsAscending cmp xs → Each cmp (λ y. AtMost cmp y e) xs → IsAscending cmp (xs ++ e ∷ [])
  pushed e xs up all =
      IsAscending-append o xs (e ∷ []) up (Each-nil o (λ y. AtMost cmp e y), tt)
      (λ a b here there. ⊎_elim (λ q. subst (λ y. AtMost cmp a y) (sym q) (all a here)) (λ none. absurd (omega arith)) (Has-cons o b e [] there))

  -- in ascending order those that are less stand first
  pub less_first : (e : E) (xs : List E) → IsAscending cmp xs → IsPartitionedBy (λ y. is_gt (cmp e y)) xs
  less_first e xs up i j d h within passes = go (is_gt (cmp e (get_or xs i d))) refl
    where
      go : (b : Bool) → is_gt (cmp e (get_or xs i d)) ≡ b → b ≡ true
      go true q = refl
      go false q = absurd (true≢false (sym passes ∙ at_most_chain o e (get_or xs i d) (get_or xs j d) q (rises o xs up i j d h within)))

  -- so do those that are not greater
  pub not_greater_first : (e : E) (xs : List E) → IsAscending cmp xs → IsPartitionedBy (λ y. is_ge (cmp e y)) xs
  not_greater_first e xs up i j d h within passes =
      let below : AtMost cmp (get_or xs j d) e = ap is_gt (o.total.antisymm (get_or xs j d) e) ∙ ge_back (cmp e (get_or xs j d)) passes in
      let chain : AtMost cmp (get_or xs i d) e = at_most_chain o (get_or xs i d) (get_or xs j d) e (rises o xs up i j d h within) below in
      ap is_ge (o.total.antisymm e (get_or xs i d)) ∙ not_gt_back (cmp (get_or xs i d) e) chain

module _ {E : Type 0} (cmp : E → E → Ordering) (e : E) where
  -- where those that are less end, the first that is not less stands
  pub less_end : (xs : List E) (n : ℕ) → n ≤ length xs → IsPartitionPoint (λ y. is_gt (cmp e y) ≡ true) (λ y. is_gt (cmp e y) ≡ false) xs n → n ≡ position_or_len (λ y. is_le (cmp e y)) xs
  less_end xs n h point =
      sym (position_or_len_is (λ y. is_le (cmp e y)) xs n e h (λ k l. gt_not_le (cmp e (get_or xs k e)) (point.0 k e (omega arith) l)) (λ l. not_gt_le (cmp e (get_or xs n e)) (point.1 n e (omega arith) l)))

  -- where those that are not greater end, the first that is greater stands
  pub not_greater_end : (xs : List E) (n : ℕ) → n ≤ length xs → IsPartitionPoint (λ y. is_ge (cmp e y) ≡ true) (λ y. is_ge (cmp e y) ≡ false) xs n → n ≡ position_or_len (λ y. is_lt (cmp e y)) xs
  not_greater_end xs n h point =
      sym (position_or_len_is (λ y. is_lt (cmp e y)) xs n e h (λ k l. ge_not_lt (cmp e (get_or xs k e)) (point.0 k e (omega arith) l)) (λ l. not_ge_lt (cmp e (get_or xs n e)) (point.1 n e (omega arith) l)))

  -- the first that is not less leaves, where it is a copy
  pub taken_at : (xs : List E) (n : ℕ) (d : E) → n ≡ position_or_len (λ y. is_le (cmp e y)) xs → n < length xs → is_ne (cmp e (get_or xs n d)) ≡ false → (has cmp e xs ≡ true) × (lists.remove xs n ≡ without cmp e xs)
  taken_at xs n d is h here =
      let same : position_or_len (λ y. is_eq (cmp e y)) xs ≡ n = found cmp e xs d (subst (λ k. is_eq (cmp e (get_or xs k d)) ≡ true) is (eq_if (cmp e (get_or xs n d)) here)) ∙ sym is in
      ((has_is cmp e xs).0 (omega arith), ap (λ k. lists.remove xs k) (sym same) ∙ sym (remove_is cmp e xs))

module _ {E : Type 0} {cmp : E → E → Ordering} (o : IsExactOrder cmp) where
  -- where the first that is not less is no copy, there is none
  pub none_at : (e : E) (xs : List E) (n : ℕ) (d : E) → IsAscending cmp xs → n ≡ position_or_len (λ y. is_le (cmp e y)) xs → (n < length xs → is_ne (cmp e (get_or xs n d)) ≡ true) → (has cmp e xs ≡ false) × (without cmp e xs ≡ xs)
  none_at e xs n d up is h = (none, without_absent cmp e xs none)
    where
      none : has cmp e xs ≡ false
      none = absent_if o e xs d up (λ l. subst (λ k. is_eq (cmp e (get_or xs k d)) ≡ false) is (not_eq_if (cmp e (get_or xs n d)) (h (omega arith))))
