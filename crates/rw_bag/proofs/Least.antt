-- The least time of some events.
use Rattle.std.proofs.Common.{◌≡◌, ℕ, ◌≤◌, min, List, [], ◌∷◌, arith}
use Rattle.std.specs.declared.cmp.Ordering.{Ordering}
use Rattle.rw_vt.specs.declared.event.Event.{Event}
use Rattle.rw_vt.specs.Order.{AtMost, Each}
use Rattle.rw_vt.proofs.Sorting.{IsExactOrder}
use Rattle.rw_vt.proofs.Bags.{Each-nil, Each-cons, Each-head, Each-tail}
use Rattle.rw_bag.specs.Bags.{least_time}

pub least_below : {B : Type 0} (m : ℕ) (xs : List (Event B)) → least_time m xs ≤ m
least_below m [] = omega arith
least_below m (x ∷ xs) = omega (arith, least_below m xs)

module _ {B : Type 0} {cmp : Event B → Event B → Ordering} (o : IsExactOrder cmp) (by_time : (e f : Event B) → AtMost cmp e f → e.time ≤ f.time) where
  least_above : (m n : ℕ) (xs : List (Event B)) → n ≤ m → Each cmp (λ e. n ≤ e.time) xs → n ≤ least_time m xs
  least_above m n [] l all = l
  least_above m n (x ∷ xs) l all =
      let h = least_above m n xs l (Each-tail o (λ e. n ≤ e.time) x xs all) in
      let here : n ≤ x.time = Each-head o (λ e. n ≤ e.time) x xs all in
      omega arith

  -- it is that of the first
  pub least_first : (m : ℕ) (x : Event B) (xs : List (Event B)) → Each cmp (λ e. AtMost cmp x e) (x ∷ xs) → least_time m (x ∷ xs) ≡ min x.time m
  least_first m x xs all =
      let below = least_below m xs in
      let h = least_above m (min x.time m) (x ∷ xs) (omega arith) (λ e k. let late = by_time x e (all e k) in omega arith) in
      omega arith

-- no event is earlier than the least
pub least_each : {B : Type 0} {cmp : Event B → Event B → Ordering} → IsExactOrder cmp → (m : ℕ) (xs : List (Event B)) → Each cmp (λ e. least_time m xs ≤ e.time) xs
least_each o m [] = Each-nil o (λ e. m ≤ e.time)
least_each o m (x ∷ xs) =
    Each-cons o (λ e. least_time m (x ∷ xs) ≤ e.time) x xs (omega arith) (λ e k. let late = least_each o m xs e k in omega arith)

-- the least of two lists
pub least_both : {B : Type 0} (m : ℕ) (xs ys : List (Event B)) → least_time (least_time m ys) xs ≡ min (least_time m xs) (least_time m ys)
least_both m [] ys = let below = least_below m ys in omega arith
least_both m (x ∷ xs) ys = omega (arith, least_both m xs ys)
