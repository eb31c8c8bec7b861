-- Lists as bags by how often each element stands in them: what counts say of a bag.
use Rattle.std.proofs.Common.{◌≡◌, ℕ, zero, suc, ◌+◌, ◌<◌, ◌≤◌, Bool, true, false, cond, List, [], ◌∷◌, length, refl, sym, ap, ◌∙◌, subst, arith, inl, inr}
use Rattle.std.specs.Prelude.{◌||◌, ◌⊎◌, ◌^◌, Option, Some, None, unwrap_or, nat_lt, slice_get}
use Rattle.std.specs.List.{AllByRecursion}
use Rattle.std.specs.List.Sorted.{IsStrictlySortedBy}
use Rattle.std.specs.Map.{lookup, keys_of}
use Rattle.std.specs.BTreeMap.{is_at}
use Rattle.std.specs.declared.cmp.Ordering.{Ordering}
use Rattle.std.specs.declared.cmp.Ordering.TheVariants.{Less}
use Rattle.std.specs.Ordering.{is_gt, is_eq}
use Rattle.std.specs.Cmp.{eq_by_cmp_equiv}
use Rattle.std.proofs.lemmas.Bool.{cases_lt, lt-ltb, le-ltb}
use Rattle.std.proofs.lemmas.Map.Keys.{sorted_head, sorted_tail}
use Rattle.rw_vt.specs.Order.{AtMost, copies, Has, Each, IsFirst, IsAscending, insert_in_order, has, without}
use Rattle.rw_vt.proofs.Sorting.{IsExactOrder, tied, at_most_itself, copies-insert, ascending_settled, IsAscending-insert}
use Rattle.rw_vt.proofs.Bags.{Each-nil, Each-cons, copies-without, Has-test, IsAscending-without}
use Rattle.rw_bag.specs.Bags.{with_copies, copies_of, AreCopyCounts}

-- a change at a key hides an earlier one there
pub hidden : {X : Type 0} (b : Bool) (w v r : X) → cond b w (cond b v r) ≡ cond b w r
hidden true w v r = refl
hidden false w v r = refl

module _ {E : Type 0} {cmp : E → E → Ordering} (o : IsExactOrder cmp) where
  pub same_both : (x y : E) → is_eq (cmp x y) ≡ is_eq (cmp y x)
  same_both x y = (eq_by_cmp_equiv o.total).symm x y

  -- the test answers what the count says
  pub has_some : (e : E) (xs : List E) → Has cmp xs e → has cmp e xs ≡ true
  has_some e [] h = absurd (omega arith)
  has_some e (x ∷ xs) h = go (is_eq (cmp e x)) h (has_some e xs)
    where
      go : (b : Bool) → 0 < cond b 1 0 + copies cmp e xs → (Has cmp xs e → has cmp e xs ≡ true) → (b || has cmp e xs) ≡ true
      go true h ih = refl
      go false h ih = ih (omega arith)

  none_by : (e : E) (xs : List E) (b : Bool) → has cmp e xs ≡ b → copies cmp e xs ≡ 0 → b ≡ false
  none_by e xs true h k = let some = Has-test o e xs h in absurd (omega arith)
  none_by e xs false h k = refl

  pub has_none : (e : E) (xs : List E) → copies cmp e xs ≡ 0 → has cmp e xs ≡ false
  has_none e xs h = none_by e xs (has cmp e xs) refl h

  -- what has equal counts answers the same
  pub has_same : (e : E) (xs ys : List E) → copies cmp e xs ≡ copies cmp e ys → has cmp e xs ≡ has cmp e ys
  has_same e xs ys h = go (cases_lt 0 (copies cmp e ys))
    where
      go : (0 < copies cmp e ys) ⊎ (copies cmp e ys ≤ 0) → has cmp e xs ≡ has cmp e ys
      go (inl l) = has_some e xs (omega arith) ∙ sym (has_some e ys l)
      go (inr l) = has_none e xs (omega arith) ∙ sym (has_none e ys (omega arith))

  -- Counts

  pub copies-with_copies : (e x : E) (n : ℕ) (xs : List E) → copies cmp e (with_copies n x xs) ≡ cond (is_eq (cmp e x)) n 0 + copies cmp e xs
  unfolding with_copies
  copies-with_copies e x zero xs = elim (is_eq (cmp e x)) as (λ b. copies cmp e xs ≡ cond b 0 0 + copies cmp e xs) [ true ↦ omega arith | false ↦ omega arith ]
  copies-with_copies e x (suc n) xs = go (is_eq (cmp e x)) (copies-with_copies e x n xs)
    where
      go : (b : Bool) → copies cmp e (with_copies n x xs) ≡ cond b n 0 + copies cmp e xs → cond b 1 0 + copies cmp e (with_copies n x xs) ≡ cond b (suc n) 0 + copies cmp e xs
      go true h = omega arith
      go false h = omega arith

  Each-with_copies : (P : E → Type 0) (n : ℕ) (x : E) (xs : List E) → P x → Each cmp P xs → Each cmp P (with_copies n x xs)
  unfolding with_copies
  Each-with_copies P zero x xs here all = all
  Each-with_copies P (suc n) x xs here all = Each-cons o P x (with_copies n x xs) here (Each-with_copies P n x xs here all)

  IsAscending-with_copies : (n : ℕ) (x : E) (xs : List E) → Each cmp (λ y. AtMost cmp x y) xs → IsAscending cmp xs → IsAscending cmp (with_copies n x xs)
  unfolding with_copies
  IsAscending-with_copies zero x xs all up = up
  IsAscending-with_copies (suc n) x xs all up = (Each-with_copies (λ y. AtMost cmp x y) n x xs (at_most_itself o x) all, IsAscending-with_copies n x xs all up)

  -- what is less than all keys is less than all that they count
  above_all : (x : E) (es : List (E × ℕ)) → AllByRecursion (λ y. cmp x y ≡ Less) (keys_of es) → Each cmp (λ y. AtMost cmp x y) (copies_of es)
  unfolding copies_of
  above_all x [] all = Each-nil o (λ y. AtMost cmp x y)
  above_all x (p ∷ es) all = Each-with_copies (λ y. AtMost cmp x y) p.1 p.0 (copies_of es) (ap is_gt all.0) (above_all x es all.1)

  none_above : (x : E) (es : List (E × ℕ)) → AllByRecursion (λ y. cmp x y ≡ Less) (keys_of es) → copies cmp x (copies_of es) ≡ 0
  unfolding copies_of
  none_above x [] all = refl
  none_above x (p ∷ es) all = copies-with_copies x p.0 p.1 (copies_of es) ∙ rw (ap is_eq all.0) (let rest = none_above x es all.1 in omega arith)

  pub IsAscending-copies_of : (es : List (E × ℕ)) → IsStrictlySortedBy cmp (keys_of es) → IsAscending cmp (copies_of es)
  unfolding copies_of
  IsAscending-copies_of [] up = tt
  IsAscending-copies_of (p ∷ es) up =
      IsAscending-with_copies p.1 p.0 (copies_of es) (above_all p.0 es (sorted_head cmp p.0 (keys_of es) up)) (IsAscending-copies_of es (sorted_tail cmp p.0 (keys_of es) up))

  -- an element stands there as often as its count says
  pub copies-copies_of : (e : E) (es : List (E × ℕ)) → IsStrictlySortedBy cmp (keys_of es) → copies cmp e (copies_of es) ≡ unwrap_or (lookup (is_at (cmp e)) es) 0
  unfolding copies_of
  copies-copies_of e [] up = refl
  copies-copies_of e (p ∷ es) up =
      copies-with_copies e p.0 p.1 (copies_of es)
      ∙ go (is_eq (cmp e p.0)) refl (copies-copies_of e es (sorted_tail cmp p.0 (keys_of es) up))
    where
      go : (b : Bool) → is_eq (cmp e p.0) ≡ b → copies cmp e (copies_of es) ≡ unwrap_or (lookup (is_at (cmp e)) es) 0
          → cond b p.1 0 + copies cmp e (copies_of es) ≡ unwrap_or (cond b (Some p.1) (lookup (is_at (cmp e)) es)) 0
      go true q h =
          let none : copies cmp e (copies_of es) ≡ 0 = subst (λ x. copies cmp x (copies_of es) ≡ 0) (sym (tied o e p.0 q)) (none_above p.0 es (sorted_head cmp p.0 (keys_of es) up)) in
          omega arith
      go false q h = omega arith

  -- one more
  pub counted_more : (e : E) (n : ℕ) (es fs : List (E × ℕ)) → IsStrictlySortedBy cmp (keys_of es) → IsStrictlySortedBy cmp (keys_of fs) → n ≡ copies cmp e (copies_of es)
      → ((q : E) → lookup (is_at (cmp q)) fs ≡ cond (is_at (cmp e) q) (Some (n + 1)) (lookup (is_at (cmp q)) es)) → copies_of fs ≡ insert_in_order cmp e (copies_of es)
  counted_more e n es fs up upf is all =
      ascending_settled o (copies_of fs) (insert_in_order cmp e (copies_of es)) (IsAscending-copies_of fs upf) (IsAscending-insert o e (copies_of es) (IsAscending-copies_of es up)) counts
    where
      go : (q : E) (b : Bool) → is_eq (cmp q e) ≡ b → unwrap_or (cond b (Some (n + 1)) (lookup (is_at (cmp q)) es)) 0 ≡ cond b 1 0 + copies cmp q (copies_of es)
      go q true h = let same : copies cmp q (copies_of es) ≡ n = ap (λ x. copies cmp x (copies_of es)) (tied o q e h) ∙ sym is in omega arith
      go q false h = let other = copies-copies_of q es up in omega arith

      counts : (q : E) → copies cmp q (copies_of fs) ≡ copies cmp q (insert_in_order cmp e (copies_of es))
      counts q =
          copies-copies_of q fs upf ∙ ap (λ r. unwrap_or r 0) (all q) ∙ ap (λ b. unwrap_or (cond b (Some (n + 1)) (lookup (is_at (cmp q)) es)) 0) (same_both e q)
          ∙ go q (is_eq (cmp q e)) refl ∙ sym (copies-insert o q e (copies_of es))

  -- as many as before
  pub counted_same : (e : E) (n : ℕ) (es fs : List (E × ℕ)) → IsStrictlySortedBy cmp (keys_of es) → IsStrictlySortedBy cmp (keys_of fs) → lookup (is_at (cmp e)) es ≡ Some n
      → ((q : E) → lookup (is_at (cmp q)) fs ≡ cond (is_at (cmp e) q) (Some n) (lookup (is_at (cmp q)) es)) → copies_of fs ≡ copies_of es
  counted_same e n es fs up upf is all =
      ascending_settled o (copies_of fs) (copies_of es) (IsAscending-copies_of fs upf) (IsAscending-copies_of es up)
      (λ q. copies-copies_of q fs upf ∙ ap (λ r. unwrap_or r 0) (all q ∙ go q (is_eq (cmp e q)) refl) ∙ sym (copies-copies_of q es up))
    where
      go : (q : E) (b : Bool) → is_eq (cmp e q) ≡ b → cond b (Some n) (lookup (is_at (cmp q)) es) ≡ lookup (is_at (cmp q)) es
      go q true h = sym is ∙ ap (λ x. lookup (is_at (cmp x)) es) (tied o e q h)
      go q false h = refl

  -- one less
  pub counted_less : (e : E) (w : Option ℕ) (es fs : List (E × ℕ)) → IsStrictlySortedBy cmp (keys_of es) → IsStrictlySortedBy cmp (keys_of fs) → unwrap_or w 0 + 1 ≡ copies cmp e (copies_of es)
      → ((q : E) → lookup (is_at (cmp q)) fs ≡ cond (is_at (cmp e) q) w (lookup (is_at (cmp q)) es)) → copies_of fs ≡ without cmp e (copies_of es)
  counted_less e w es fs up upf is all =
      ascending_settled o (copies_of fs) (without cmp e (copies_of es)) (IsAscending-copies_of fs upf) (IsAscending-without o e (copies_of es) (IsAscending-copies_of es up)) counts
    where
      go : (q : E) (b : Bool) → is_eq (cmp q e) ≡ b → cond b 1 0 + unwrap_or (cond b w (lookup (is_at (cmp q)) es)) 0 ≡ copies cmp q (copies_of es)
      go q true h = let same : copies cmp q (copies_of es) ≡ unwrap_or w 0 + 1 = ap (λ x. copies cmp x (copies_of es)) (tied o q e h) ∙ sym is in omega arith
      go q false h = let other = copies-copies_of q es up in omega arith

      counts : (q : E) → copies cmp q (copies_of fs) ≡ copies cmp q (without cmp e (copies_of es))
      counts q =
          let there = copies-without o q e (copies_of es) (has_some e (copies_of es) (omega arith)) in
          let now : copies cmp q (copies_of fs) ≡ unwrap_or (cond (is_eq (cmp q e)) w (lookup (is_at (cmp q)) es)) 0 =
          copies-copies_of q fs upf ∙ ap (λ r. unwrap_or r 0) (all q) ∙ ap (λ b. unwrap_or (cond b w (lookup (is_at (cmp q)) es)) 0) (same_both e q) in
          let before = go q (is_eq (cmp q e)) refl in
          omega arith

  -- each count is still none of 0, where the one that changed is not
  pub counts_changed : (e : E) (w : Option ℕ) (es fs : List (E × ℕ)) → AreCopyCounts cmp es → ((k : ℕ) → w ≡ Some k → (0 < k) × (k < 2 ^ 62))
      → ((q : E) → lookup (is_at (cmp q)) fs ≡ cond (is_at (cmp e) q) w (lookup (is_at (cmp q)) es)) → AreCopyCounts cmp fs
  counts_changed e w es fs all here is x n q = go (is_eq (cmp e x)) (sym (is x) ∙ q)
    where
      go : (b : Bool) → cond b w (lookup (is_at (cmp x)) es) ≡ Some n → (0 < n) × (n < 2 ^ 62)
      go true h = here n h
      go false h = all x n h

  pub count_small : (e : E) (es : List (E × ℕ)) → AreCopyCounts cmp es → unwrap_or (lookup (is_at (cmp e)) es) 0 < 2 ^ 62
  count_small e es all = go (lookup (is_at (cmp e)) es) refl
    where
      go : (r : Option ℕ) → lookup (is_at (cmp e)) es ≡ r → unwrap_or r 0 < 2 ^ 62
      go None q = omega arith
      go (Some n) q = (all e n q).1

  pub has_test : (e : E) (xs : List E) → nat_lt 0 (copies cmp e xs) ≡ has cmp e xs
  has_test e xs = go (cases_lt 0 (copies cmp e xs))
    where
      go : (0 < copies cmp e xs) ⊎ (copies cmp e xs ≤ 0) → nat_lt 0 (copies cmp e xs) ≡ has cmp e xs
      go (inl l) = lt-ltb 0 (copies cmp e xs) l ∙ sym (has_some e xs l)
      go (inr l) = le-ltb 0 (copies cmp e xs) l ∙ sym (has_none e xs (omega arith))

  -- what has a count is there
  pub counted_there : (e : E) (n : ℕ) (es : List (E × ℕ)) → IsStrictlySortedBy cmp (keys_of es) → AreCopyCounts cmp es → lookup (is_at (cmp e)) es ≡ Some n → copies cmp e (copies_of es) ≡ n
  counted_there e n es up all is = copies-copies_of e es up ∙ ap (λ r. unwrap_or r 0) is

  -- what has none is not
  pub counted_none : (e : E) (es : List (E × ℕ)) → IsStrictlySortedBy cmp (keys_of es) → lookup (is_at (cmp e)) es ≡ None → has cmp e (copies_of es) ≡ false
  counted_none e es up is = has_none e (copies_of es) (copies-copies_of e es up ∙ ap (λ r. unwrap_or r 0) is)

  -- the first key stands first
  first_by : (p : E × ℕ) (e : E) (n : ℕ) (es : List (E × ℕ)) → p ≡ (e, n) → 0 < n → IsFirst (copies_of (p ∷ es)) e
  unfolding copies_of with_copies
  first_by p e zero es q h = absurd (omega arith)
  first_by p e (suc n) es q h = (with_copies n e (copies_of es), rw q refl)

  pub first_counted : (e : E) (n : ℕ) (es : List (E × ℕ)) → slice_get es 0 ≡ Some (e, n) → 0 < n → IsFirst (copies_of es) e
  first_counted e n [] q h = absurd (cc)
  first_counted e n (p ∷ es) q h = let same : p ≡ (e, n) = cc in first_by p e n es same h

  pub none_counted : (es : List (E × ℕ)) → (0 < length es → ⊥) → copies_of es ≡ []
  unfolding copies_of
  none_counted [] h = refl
  none_counted (p ∷ es) h = absurd (h (omega arith))
