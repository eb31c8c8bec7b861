-- Lists of events in order: one more at the end, one less at the front, and where a time cuts them.
use Rattle.std.proofs.Common.{◌≡◌, ℕ, suc, ◌+◌, ◌≤◌, Bool, true, false, cond, List, [], ◌∷◌, ◌++◌, refl, sym, ap, subst, take, drop, arith, Option, Some, None}
use Rattle.std.specs.Prelude.{not, nat_lt, nat_le, filter}
use Rattle.std.specs.declared.cmp.Ordering.{Ordering}
use Rattle.std.specs.Ordering.{is_eq}
use Rattle.std.specs.List.{position_or_len}
use Rattle.std.proofs.lemmas.Bool.Decides.{nat_tests}
use Rattle.std.proofs.lemmas.Cmp.{tied_itself}
use Rattle.rw_vt.specs.declared.event.Event.{Event}
use Rattle.rw_vt.specs.Order.{AtMost, Each, IsAscending, without}
use Rattle.rw_vt.proofs.Sorting.{IsExactOrder}
use Rattle.rw_vt.proofs.Bags.{Each-nil, Each-head, Each-tail, IsAscending-push}
use Rattle.rw_lp.specs.Process.{is_less_than_last, split_last}
use Rattle.rw_lp.proofs.Splits.{IsSplit, split_is}

module _ {E : Type 0} {cmp : E → E → Ordering} (o : IsExactOrder cmp) where
  -- the first copy is the head
  pub without_head : (x : E) (xs : List E) → without cmp x (x ∷ xs) ≡ xs
  without_head x xs = let same : is_eq (cmp x x) ≡ true = ap is_eq (tied_itself o.total x) in rw same refl

  -- what is not less than the last goes to the end
  pub pushed_up : (e : E) (xs : List E) → IsAscending cmp xs → is_less_than_last cmp e (split_last xs) ≡ false → IsAscending cmp (xs ++ e ∷ [])
  pushed_up e xs up h = go (split_last xs) (split_is xs) h
    where
      go : (r : Option (List E × E)) → IsSplit xs r → is_less_than_last cmp e r ≡ false → IsAscending cmp (xs ++ e ∷ [])
      go None q k = subst (λ l. IsAscending cmp (l ++ e ∷ [])) (sym q) (Each-nil o (λ a. AtMost cmp e a), tt)
      go (Some r) q k = subst (λ l. IsAscending cmp (l ++ e ∷ [])) (sym q) (IsAscending-push o r.0 r.1 e (subst (IsAscending cmp) q up) k)

-- Times

lt_from_not : (k t : ℕ) → nat_le t k ≡ false → nat_lt k t ≡ true
lt_from_not k t h = grind (arith, nat_tests)

not_lt_from : (k t : ℕ) → nat_le t k ≡ true → nat_lt k t ≡ false
not_lt_from k t h = grind (arith, nat_tests)

le_from_le : (k n t : ℕ) → nat_le t k ≡ true → k ≤ n → nat_le t n ≡ true
le_from_le k n t h l = grind (arith, nat_tests)

module _ {B : Type 0} {cmp : Event B → Event B → Ordering} (o : IsExactOrder cmp) (by_time : (e f : Event B) → AtMost cmp e f → e.time ≤ f.time) where
  -- where the first is not before t, none is
  late_all : (t : ℕ) (xs : List (Event B)) → IsAscending cmp xs → Each cmp (λ e. nat_le t e.time ≡ true) xs → (filter (λ e. nat_lt e.time t) xs ≡ []) × (filter (λ e. nat_le t e.time) xs ≡ xs)
  late_all t [] up all = (refl, refl)
  late_all t (x ∷ xs) up all =
      let h = late_all t xs up.1 (Each-tail o (λ e. nat_le t e.time ≡ true) x xs all) in
      let here : nat_le t x.time ≡ true = Each-head o (λ e. nat_le t e.time ≡ true) x xs all in
      let early : nat_lt x.time t ≡ false = not_lt_from x.time t here in
      (rw early h.0, rw here (ap (λ l. x ∷ l) h.1))

  -- the events before t stand first
  pub cut_at : (t : ℕ) (xs : List (Event B)) → IsAscending cmp xs →
      (filter (λ e. nat_lt e.time t) xs ≡ take (position_or_len (λ e. nat_le t e.time) xs) xs) × (filter (λ e. nat_le t e.time) xs ≡ drop (position_or_len (λ e. nat_le t e.time) xs) xs)
  cut_at t [] up = (refl, refl)
  cut_at t (x ∷ xs) up = go (nat_le t x.time) refl (cut_at t xs up.1)
    where
      n : ℕ
      n = position_or_len (λ e. nat_le t e.time) xs

      go : (b : Bool) → nat_le t x.time ≡ b → (filter (λ e. nat_lt e.time t) xs ≡ take (position_or_len (λ e. nat_le t e.time) xs) xs) × (filter (λ e. nat_le t e.time) xs ≡ drop (position_or_len (λ e. nat_le t e.time) xs) xs)
          → (cond (nat_lt x.time t) (x ∷ filter (λ e. nat_lt e.time t) xs) (filter (λ e. nat_lt e.time t) xs) ≡ take (cond (not b) (1 + position_or_len (λ e. nat_le t e.time) xs) 0) (x ∷ xs))
          × (cond b (x ∷ filter (λ e. nat_le t e.time) xs) (filter (λ e. nat_le t e.time) xs) ≡ drop (cond (not b) (1 + position_or_len (λ e. nat_le t e.time) xs) 0) (x ∷ xs))
      go true q h =
          let early : nat_lt x.time t ≡ false = not_lt_from x.time t q in
          let all = late_all t xs up.1 (λ e k. le_from_le x.time e.time t q (by_time x e (up.0 e k))) in
          (rw early all.0, ap (λ l. x ∷ l) all.1)
      go false q h =
          let early : nat_lt x.time t ≡ true = lt_from_not x.time t q in
          let next : 1 + position_or_len (λ e. nat_le t e.time) xs ≡ suc (position_or_len (λ e. nat_le t e.time) xs) = omega arith in
          (rw (early, next) (ap (λ l. x ∷ l) h.0), rw next h.1)
