-- Searches by halves in ascending lists: for a copy of an event, and for the first event that is not before a time.
use Rattle.std.proofs.Common.{◌≡◌, ℕ, suc, ◌+◌, ◌<◌, ◌≤◌, Bool, true, false, List, [], ◌∷◌, length, get_or, refl, sym, ap, ◌∙◌, arith, inl, inr, Result, Ok, Err}
use Rattle.std.specs.Prelude.{nat_lt, nat_le, ◌⊎◌, is_ok}
use Rattle.std.specs.List.{list_any, position_or_len}
use Rattle.std.specs.List.Sorted.{IsBinarySearchResult, IsPartitionedBy, IsPartitionPoint, IsSortedBy, IsSearchInRange}
use Rattle.std.specs.declared.cmp.Ordering.{Ordering}
use Rattle.std.specs.declared.cmp.Ordering.TheVariants.{Less, Equal, Greater}
use Rattle.std.specs.Ordering.{is_gt, is_lt, is_eq, ordering_reverse}
use Rattle.std.proofs.lemmas.Bool.{cases_lt}
use Rattle.std.proofs.lemmas.Bool.Decides.{nat_tests}
use Rattle.std.proofs.lemmas.List.Folds.{list_any_at}
use Rattle.std.proofs.lemmas.List.Sorted.{searchable_from_sorted}
use Rattle.std.proofs.lemmas.List.Sums.{position_or_len_is}
use Rattle.rw_vt.specs.declared.event.Event.{Event}
use Rattle.rw_vt.specs.Order.{AtMost, IsAscending, has}
use Rattle.rw_vt.proofs.Sorting.{IsExactOrder}
use Rattle.rw_bag.proofs.Cited.{rises}

not_below : (r : Ordering) → is_gt r ≡ false → is_lt (ordering_reverse r) ≡ false
not_below Less h = refl
not_below Equal h = refl
not_below Greater h = cc

none_passes : {E : Type 0} (p : E → Bool) (xs : List E) → ((k : ℕ) (d : E) → k < length xs → p (get_or xs k d) ≡ false) → list_any p xs ≡ false
none_passes p [] none = refl
none_passes p (x ∷ xs) none = rw (none 0 x (omega arith)) (none_passes p xs (λ k d h. none (suc k) d (omega arith)))

module _ {E : Type 0} {cmp : E → E → Ordering} (o : IsExactOrder cmp) where
  sorted_if : (xs : List E) → IsAscending cmp xs → IsSortedBy (λ x y. is_lt (cmp x y)) xs
  sorted_if xs up k d low high =
      ap is_lt (o.total.antisymm (get_or xs (k + 1) d) (get_or xs k d)) ∙ not_below (cmp (get_or xs k d) (get_or xs (k + 1) d)) (rises o xs up k (k + 1) d (omega arith) high)

  -- the search finds a copy exactly where there is one
  pub search_is : (e : E) (xs : List E) (r : Result ℕ ℕ) → IsAscending cmp xs → IsSearchInRange r (length xs) → IsBinarySearchResult (λ y. cmp y e) xs r → is_ok r ≡ has cmp e xs
  search_is e xs (Ok i) up range h = sym (list_any_at (λ x. is_eq (cmp e x)) xs i e range (ap is_eq (o.total.antisymm e (get_or xs i e) ∙ ap ordering_reverse (h e))))
  search_is e xs (Err i) up range h = sym (none_passes (λ x. is_eq (cmp e x)) xs (λ k d within. go k d within (cases_lt k i)))
    where
      point : IsPartitionPoint (λ y. cmp y e ≡ Less) (λ y. cmp y e ≡ Greater) xs i
      point = h (searchable_from_sorted o.total (λ y. y) xs e (sorted_if xs up))

      go : (k : ℕ) (d : E) → k < length xs → (k < i) ⊎ (i ≤ k) → is_eq (cmp e (get_or xs k d)) ≡ false
      go k d within (inl l) = ap is_eq (o.total.antisymm e (get_or xs k d) ∙ ap ordering_reverse (point.0 k d (omega arith) l))
      go k d within (inr l) = ap is_eq (o.total.antisymm e (get_or xs k d) ∙ ap ordering_reverse (point.1 k d l within))

-- Times

lt_from_lt : (k n t : ℕ) → k ≤ n → nat_lt n t ≡ true → nat_lt k t ≡ true
lt_from_lt k n t l h = grind (arith, nat_tests)

late_if : (k t : ℕ) → nat_lt k t ≡ false → nat_le t k ≡ true
late_if k t h = grind (arith, nat_tests)

early_if : (k t : ℕ) → nat_lt k t ≡ true → nat_le t k ≡ false
early_if k t h = grind (arith, nat_tests)

-- the events before t stand first
pub early_first : {B : Type 0} {cmp : Event B → Event B → Ordering} → IsExactOrder cmp → ((e f : Event B) → AtMost cmp e f → e.time ≤ f.time) → (t : ℕ) (xs : List (Event B)) → IsAscending cmp xs → IsPartitionedBy (λ e. nat_lt e.time t) xs
early_first o by_time t xs up i j d h within early = lt_from_lt (get_or xs i d).time (get_or xs j d).time t (by_time (get_or xs i d) (get_or xs j d) (rises o xs up i j d h within)) early

-- where those before t end, the others begin
pub first_late : {B : Type 0} (t : ℕ) (xs : List (Event B)) (n : ℕ) → n ≤ length xs → IsPartitionPoint (λ e. nat_lt e.time t ≡ true) (λ e. nat_lt e.time t ≡ false) xs n → n ≡ position_or_len (λ e. nat_le t e.time) xs
first_late t [] n within point = omega arith
first_late {B} t (x ∷ xs) n within point =
    sym (position_or_len_is (λ (e : Event B). nat_le t e.time) (x ∷ xs) n x within (λ k l. early_if (get_or (x ∷ xs) k x).time t (point.0 k x (omega arith) l)) (λ l. late_if (get_or (x ∷ xs) n x).time t (point.1 n x (omega arith) l)))
