-- What three lists hold together as a bag: one more, one less, and the least.
use Rattle.std.proofs.Common.{◌≡◌, ℕ, ◌+◌, ◌<◌, Bool, true, false, cond, List, [], ◌∷◌, ◌++◌, refl, sym, ap, ◌∙◌, subst, arith, true≢false, append-nil, Option, Some, None, ⊎_elim}
use denote.Bor.{Bor}
use Rattle.std.specs.Option.{MatchOption, option_copied}
use Rattle.std.specs.declared.cmp.Ordering.{Ordering}
use Rattle.std.specs.Ordering.{is_gt}
use Rattle.rw_vt.specs.Order.{AtMost, one_if_same, copies, Has, Each, IsFirst, IsLeastOf, IsAscending, insert_in_order, in_order, has, without}
use Rattle.rw_vt.proofs.Sorting.{IsExactOrder, absent, at_most_itself, at_most_both, at_most_chain, at_most_other, copies-append, copies-insert, copies-in_order, ascending_settled, IsAscending-insert, IsAscending-in_order, Has-head, Has-cons, Has-left, Has-right}
use Rattle.rw_vt.proofs.Bags.{Each-cons, Each-append, copies-without, IsAscending-without}
use Rattle.rw_bag.specs.Bags.{IsNextOf, lesser}
use Rattle.rw_bag.proofs.Counting.{has_some, has_none}
use Rattle.rw_bag.proofs.Falling.{without_absent}

module _ {E : Type 0} {cmp : E → E → Ordering} (o : IsExactOrder cmp) where
  -- how often q stands in the three
  abbrev pub in_three : E → List E → List E → List E → ℕ
  in_three q xs ys zs = copies cmp q xs + copies cmp q ys + copies cmp q zs

  pub seen_three : (q : E) (xs ys zs all : List E) → in_order cmp (xs ++ ys ++ zs) ≡ all → copies cmp q all ≡ in_three q xs ys zs
  seen_three q xs ys zs all seen = sym (ap (copies cmp q) seen) ∙ copies-in_order o q (xs ++ ys ++ zs) ∙ copies-append o q (xs ++ ys) zs ∙ ap (λ n. n + copies cmp q zs) (copies-append o q xs ys)

  pub seen_ascends : (xs all : List E) → in_order cmp xs ≡ all → IsAscending cmp all
  seen_ascends xs all seen = subst (IsAscending cmp) seen (IsAscending-in_order o xs)

  -- what is in order stays as it is
  pub in_order_done : (xs : List E) → IsAscending cmp xs → in_order cmp xs ≡ xs
  in_order_done xs up = ascending_settled o (in_order cmp xs) xs (IsAscending-in_order o xs) up (λ q. copies-in_order o q xs)

  -- one more
  pub puts : (e : E) (xs ys zs us vs ws all : List E) → in_order cmp (xs ++ ys ++ zs) ≡ all → ((q : E) → in_three q us vs ws ≡ one_if_same cmp q e + in_three q xs ys zs) → in_order cmp (us ++ vs ++ ws) ≡ insert_in_order cmp e all
  puts e xs ys zs us vs ws all seen more =
      ascending_settled o (in_order cmp (us ++ vs ++ ws)) (insert_in_order cmp e all)
      (IsAscending-in_order o (us ++ vs ++ ws)) (IsAscending-insert o e all (seen_ascends (xs ++ ys ++ zs) all seen))
      (λ q. omega (arith, seen_three q us vs ws (in_order cmp (us ++ vs ++ ws)) refl, more q, seen_three q xs ys zs all seen, copies-insert o q e all))

  -- one less
  pub takes : (e : E) (xs ys zs us vs ws all : List E) → in_order cmp (xs ++ ys ++ zs) ≡ all → ((q : E) → in_three q xs ys zs ≡ one_if_same cmp q e + in_three q us vs ws) → (has cmp e all ≡ true) × (in_order cmp (us ++ vs ++ ws) ≡ without cmp e all)
  takes e xs ys zs us vs ws all seen less = (there, left)
    where
      there : has cmp e all ≡ true
      there = has_some o e all (omega (arith, seen_three e xs ys zs all seen, less e, Has-head o e []))

      left : in_order cmp (us ++ vs ++ ws) ≡ without cmp e all
      left =
          ascending_settled o (in_order cmp (us ++ vs ++ ws)) (without cmp e all)
          (IsAscending-in_order o (us ++ vs ++ ws)) (IsAscending-without o e all (seen_ascends (xs ++ ys ++ zs) all seen))
          (λ q. omega (arith, seen_three q us vs ws (in_order cmp (us ++ vs ++ ws)) refl, less q, seen_three q xs ys zs all seen, copies-without o q e all there))

  no_copies : (e : E) (xs : List E) → has cmp e xs ≡ false → copies cmp e xs ≡ 0
  no_copies e xs h = absent o e xs (λ k. true≢false (sym (has_some o e xs k) ∙ h))

  -- where only the first of the three may have it
  pub takes_last : (e : E) (xs ys zs us vs ws all : List E) → in_order cmp (xs ++ ys ++ zs) ≡ all → us ≡ without cmp e xs → vs ≡ ys → ws ≡ zs → has cmp e ys ≡ false → has cmp e zs ≡ false → (has cmp e all ≡ has cmp e xs) × (in_order cmp (us ++ vs ++ ws) ≡ without cmp e all)
  takes_last e xs ys zs us vs ws all seen first second third no_second no_third = go (has cmp e xs) refl
    where
      go : (b : Bool) → has cmp e xs ≡ b → (has cmp e all ≡ b) × (in_order cmp (us ++ vs ++ ws) ≡ without cmp e all)
      go true q = takes e xs ys zs us vs ws all seen (λ a. omega (arith, copies-without o a e xs q, ap (copies cmp a) first, ap (copies cmp a) second, ap (copies cmp a) third))
      go false q =
          let none : has cmp e all ≡ false = has_none o e all (omega (arith, seen_three e xs ys zs all seen, no_copies e xs q, no_copies e ys no_second, no_copies e zs no_third)) in
          let same : us ≡ xs = first ∙ without_absent cmp e xs q in
          (none, ap (λ l. in_order cmp (l ++ vs ++ ws)) same ∙ ap (λ l. in_order cmp (xs ++ l ++ ws)) second ∙ ap (λ l. in_order cmp (xs ++ ys ++ l)) third ∙ seen ∙ sym (without_absent cmp e all none))

  -- The least

  -- what is at most the first is at most all
  pub first_least : (e a : E) (xs : List E) → AtMost cmp e a → IsFirst xs a → IsAscending cmp xs → Each cmp (λ y. AtMost cmp e y) xs
  first_least e a xs h first up =
      let up_a : IsAscending cmp (a ∷ first.0) = subst (IsAscending cmp) first.1 up in
      subst (Each cmp (λ y. AtMost cmp e y)) (sym first.1) (Each-cons o (λ y. AtMost cmp e y) a first.0 h (λ y k. at_most_chain o e a y h (up_a.0 y k)))

  -- the least of a list, where it has any
  abbrev pub IsLeastIf : List E → Option E → Type 0
  IsLeastIf xs least = MatchOption least (xs ≡ []) (IsLeastOf cmp xs)

  pub first_is_least : (r : Option (Bor E)) (xs : List E) → MatchOption r (xs ≡ []) (λ e. IsFirst xs e.now) → IsAscending cmp xs → IsLeastIf xs (option_copied r)
  first_is_least None xs none up = none
  first_is_least (Some e) xs first up = (subst (λ l. Has cmp l e.now) (sym first.1) (Has-head o e.now first.0), first_least e.now e.now xs (at_most_itself o e.now) first up)

  pub lesser_is_least : (a b : Option E) (xs ys : List E) → IsLeastIf xs a → IsLeastIf ys b → IsLeastIf (xs ++ ys) (lesser cmp a b)
  lesser_is_least None b xs ys none h = subst (λ l. IsLeastIf (l ++ ys) b) (sym none) h
  lesser_is_least (Some x) None xs ys h none = subst (λ l. IsLeastIf (xs ++ l) (Some x)) (sym none) (subst (λ l. IsLeastIf l (Some x)) (sym (append-nil xs)) h)
  lesser_is_least (Some x) (Some y) xs ys h k = go (is_gt (cmp x y)) refl
    where
      go : (b : Bool) → is_gt (cmp x y) ≡ b → IsLeastIf (xs ++ ys) (cond b (Some y) (Some x))
      go true q = (Has-right o y xs ys k.0, Each-append o (λ z. AtMost cmp y z) xs ys (λ z there. at_most_chain o y x z (at_most_other o x y q) (h.1 z there)) k.1)
      go false q = (Has-left o x xs ys h.0, Each-append o (λ z. AtMost cmp x z) xs ys h.1 (λ z there. at_most_chain o x y z q (k.1 z there)))

  -- in order the least stands first
  least_first : (e : E) (xs : List E) → IsAscending cmp xs → IsLeastOf cmp xs e → IsFirst xs e
  least_first e [] up least = absurd (omega (arith, least.0))
  least_first e (x ∷ xs) up least =
      let below : AtMost cmp e x = least.1 x (Has-head o x xs) in
      let above : AtMost cmp x e = ⊎_elim (λ q. subst (λ y. AtMost cmp x y) (sym q) (at_most_itself o x)) (up.0 e) (Has-cons o e x xs least.0) in
      (xs, ap (λ y. y ∷ xs) (sym (at_most_both o e x below above)))

  pub next_is : (r : Option E) (xs all : List E) → in_order cmp xs ≡ all → IsLeastIf xs r → IsNextOf cmp all r
  next_is None xs all seen none = sym seen ∙ ap (in_order cmp) none
  next_is (Some e) xs all seen least = (least_first e all (seen_ascends xs all seen) same, same)
    where
      counts : (q : E) → copies cmp q all ≡ copies cmp q xs
      counts q = sym (ap (copies cmp q) seen) ∙ copies-in_order o q xs

      same : IsLeastOf cmp all e
      same = (subst (λ n. 0 < n) (sym (counts e)) least.0, λ q k. least.1 q (subst (λ n. 0 < n) (counts q) k))
