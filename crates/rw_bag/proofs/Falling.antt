-- Bags kept in descending order: how an edit of such a list looks from its other end, in ascending order.
use Rattle.std.proofs.Common.{◌≡◌, ℕ, zero, suc, ◌+◌, ◌-◌, ◌<◌, ◌≤◌, Bool, true, false, cond, List, [], ◌∷◌, ◌++◌, length, get_or, reverse, take, drop, refl, sym, ap, ◌∙◌, subst, arith, append_assoc, inl, inr, true≢false}
use Rattle.std.specs.Prelude.{not, ◌||◌, ◌⊎◌, Option, Some}
use Rattle.std.specs.Option.{option_to_list}
use Rattle.std.specs.List as lists
use Rattle.std.specs.List.{position_or_len}
use Rattle.std.specs.List.Sorted.{IsPartitionedBy, IsPartitionPoint}
use Rattle.std.specs.declared.cmp.Ordering.{Ordering}
use Rattle.std.specs.declared.cmp.Ordering.TheVariants.{Less, Equal, Greater}
use Rattle.std.specs.Ordering.{is_gt, is_eq, is_le, is_lt, ordering_reverse}
use Rattle.std.proofs.lemmas.Bool.{cases_lt}
use Rattle.std.proofs.lemmas.Grind.{reverse_onto}
use Rattle.std.proofs.lemmas.List.{reverse-append, length-reverse, get_or-reverse, take-append-drop, length-drop}
use Rattle.std.proofs.lemmas.List.Edits.{remove-append_right}
use Rattle.std.proofs.lemmas.List.Sums.{position_or_len_is, fails_before_first}
use Rattle.std.proofs.Math.Seq.{drop-cons}
use Rattle.rw_vt.specs.Order.{AtMost, copies, Has, Each, IsAscending, has, without}
use Rattle.rw_vt.proofs.Sorting.{IsExactOrder, absent, at_most_itself, at_most_chain, Has-head, Has-tail}
use Rattle.rw_vt.proofs.Bags.{Has-test, Each-head}
use Rattle.rw_bag.proofs.Orderings.{le_not_gt, not_gt_le, not_le_not_eq, not_lt_back, lt_back}
use Rattle.rw_bag.proofs.Edits.{remove_is, remove_absent, has_is, place_none, place_within}

module _ {E : Type 0} where
  -- what is read last and then taken off stands first from the other end
  pub last_taken : (x : E) (xs zs ys : List E) (r : Option E) (n : ℕ) → zs ≡ xs → length zs ≡ n → 0 < length zs → x ≡ get_or zs (length zs - 1) x
      → (0 < n → r ≡ Some (get_or xs (n - 1) x)) → xs ≡ ys ++ option_to_list r → reverse xs ≡ x ∷ reverse ys
  last_taken x xs zs ys r n same len some read value rest =
      let is : get_or xs (n - 1) x ≡ x = sym (subst (λ l. x ≡ get_or l (n - 1) x) same (subst (λ k. x ≡ get_or zs (k - 1) x) len read)) in
      let last : xs ≡ ys ++ x ∷ [] = rest ∙ ap (λ q. ys ++ option_to_list q) (value (subst (λ k. 0 < k) len some) ∙ ap Some is) in
      ap reverse last ∙ reverse-append ys (x ∷ [])

  -- an edit of a list from its other end
  remove-reverse : (xs : List E) (i p : ℕ) (d : E) → i + 1 + p ≡ length xs → lists.remove (reverse xs) p ≡ reverse (lists.remove xs i)
  remove-reverse xs i p d h =
      let rest = drop (suc i) xs in
      let here : drop i xs ≡ get_or xs i d ∷ rest = drop-cons xs i d (omega arith) in
      let behind : reverse (get_or xs i d ∷ rest) ≡ reverse rest ++ get_or xs i d ∷ [] = reverse_onto rest (get_or xs i d) [] in
      let parts : reverse xs ≡ reverse rest ++ (get_or xs i d ∷ reverse (take i xs)) =
      ap reverse (sym (take-append-drop i xs)) ∙ reverse-append (take i xs) (drop i xs) ∙ ap (λ l. l ++ reverse (take i xs)) (ap reverse here ∙ behind) ∙ append_assoc (reverse rest) (get_or xs i d ∷ []) (reverse (take i xs)) in
      let long : length (reverse rest) ≡ p = length-reverse rest ∙ length-drop (suc i) xs ∙ omega arith in
      let none : p - p ≡ 0 = omega arith in
      ap (λ l. lists.remove l p) parts
      ∙ remove-append_right (reverse rest) (get_or xs i d ∷ reverse (take i xs)) p p long (omega arith)
      ∙ ap (λ n. reverse rest ++ lists.remove (get_or xs i d ∷ reverse (take i xs)) n) none
      ∙ sym (reverse-append (take i xs) rest)

  -- the element at a place, from the other end
  pub read_back : (xs ys : List E) (n p : ℕ) (d : E) → reverse xs ≡ ys → n + 1 + p ≡ length ys → get_or ys p d ≡ get_or xs n d
  read_back xs ys n p d is h =
      let long : length ys ≡ length xs = sym (ap length is) ∙ length-reverse xs in
      let same : length xs - 1 - p ≡ n = omega arith in
      ap (λ l. get_or l p d) (sym is) ∙ get_or-reverse xs p d (omega arith) ∙ ap (λ k. get_or xs k d) same

  -- where those that pass stand first, they are the last ones from the other end
  pub passed : (p : E → Bool) (xs ys : List E) (n : ℕ) (d : E) → reverse xs ≡ ys → n ≤ length xs → IsPartitionPoint (λ y. p y ≡ true) (λ y. p y ≡ false) xs n → n + position_or_len p ys ≡ length ys
  passed p xs ys n d is h point = let first : position_or_len p ys ≡ length ys - n = position_or_len_is p ys (length ys - n) d (omega arith) below here in omega (arith, long)
    where
      long : length ys ≡ length xs
      long = sym (ap length is) ∙ length-reverse xs

      below : (k : ℕ) → k < length ys - n → p (get_or ys k d) ≡ false
      below k l = ap p (read_back xs ys (length xs - 1 - k) k d is (omega (arith, long))) ∙ point.1 (length xs - 1 - k) d (omega (arith, long)) (omega (arith, long))

      here : length ys - n < length ys → p (get_or ys (length ys - n) d) ≡ true
      here l = ap p (read_back xs ys (n - 1) (length ys - n) d is (omega (arith, long))) ∙ point.0 (n - 1) d (omega arith) (omega arith)

module _ {E : Type 0} (cmp : E → E → Ordering) (e : E) where
  -- the last copy leaves
  pub removed : (xs ys : List E) (n : ℕ) → reverse xs ≡ ys → n + 1 + position_or_len (λ y. is_eq (cmp e y)) ys ≡ length ys → reverse (lists.remove xs n) ≡ without cmp e ys
  removed xs ys n is h =
      let p = position_or_len (λ y. is_eq (cmp e y)) ys in
      let long : length ys ≡ length xs = sym (ap length is) ∙ length-reverse xs in
      sym (remove-reverse xs n p e (h ∙ long)) ∙ ap (λ l. lists.remove l p) is ∙ sym (remove_is cmp e ys)

  -- the first that is not less is the first copy, if it is one
  pub found : (ys : List E) (d : E) → is_eq (cmp e (get_or ys (position_or_len (λ y. is_le (cmp e y)) ys) d)) ≡ true → position_or_len (λ y. is_eq (cmp e y)) ys ≡ position_or_len (λ y. is_le (cmp e y)) ys
  found ys d h =
      position_or_len_is (λ y. is_eq (cmp e y)) ys (position_or_len (λ y. is_le (cmp e y)) ys) d (place_within (λ y. is_le (cmp e y)) ys)
      (λ k l. not_le_not_eq (cmp e (get_or ys k d)) (fails_before_first (λ y. is_le (cmp e y)) ys k d l)) (λ l. h)

  -- where all are less, there is no copy
  pub absent_above : (ys : List E) → position_or_len (λ y. is_le (cmp e y)) ys ≡ length ys → has cmp e ys ≡ false
  absent_above ys h =
      let none : position_or_len (λ y. is_eq (cmp e y)) ys ≡ length ys = place_none (λ y. is_eq (cmp e y)) ys (λ k d l. not_le_not_eq (cmp e (get_or ys k d)) (fails_before_first (λ y. is_le (cmp e y)) ys k d (omega arith))) in
      (has_is cmp e ys).1 (omega arith)

  -- a copy that stands somewhere is there
  pub present : (ys : List E) (n : ℕ) → n + 1 + position_or_len (λ y. is_eq (cmp e y)) ys ≡ length ys → has cmp e ys ≡ true
  present ys n h = (has_is cmp e ys).0 (omega arith)

  pub without_absent : (ys : List E) → has cmp e ys ≡ false → without cmp e ys ≡ ys
  without_absent ys h = go (cases_lt (position_or_len (λ y. is_eq (cmp e y)) ys) (length ys))
    where
      go : (position_or_len (λ y. is_eq (cmp e y)) ys < length ys) ⊎ (length ys ≤ position_or_len (λ y. is_eq (cmp e y)) ys) → without cmp e ys ≡ ys
      go (inl l) = absurd (true≢false (sym ((has_is cmp e ys).0 l) ∙ h))
      go (inr l) = remove_absent cmp e ys l

module _ {E : Type 0} {cmp : E → E → Ordering} (o : IsExactOrder cmp) where
  pub stands : (xs : List E) (k : ℕ) (d : E) → k < length xs → Has cmp xs (get_or xs k d)
  stands [] k d h = absurd (omega arith)
  stands (x ∷ xs) zero d h = Has-head o x xs
  stands (x ∷ xs) (suc k) d h = Has-tail o (get_or xs k d) x xs (stands xs k d (omega arith))

  pub rises : (xs : List E) → IsAscending cmp xs → (k l : ℕ) (d : E) → k ≤ l → l < length xs → AtMost cmp (get_or xs k d) (get_or xs l d)
  rises [] up k l d h i = absurd (omega arith)
  rises (x ∷ xs) up zero zero d h i = at_most_itself o x
  rises (x ∷ xs) up zero (suc l) d h i = up.0 (get_or xs l d) (stands xs l d (omega arith))
  rises (x ∷ xs) up (suc k) zero d h i = absurd (omega arith)
  rises (x ∷ xs) up (suc k) (suc l) d h i = rises xs up.1 k l d (omega arith) (omega arith)

  -- in descending order those that are not less stand first
  pub not_less_first : (e : E) (xs ys : List E) → reverse xs ≡ ys → IsAscending cmp ys → IsPartitionedBy (λ y. is_le (cmp e y)) xs
  not_less_first e xs ys is up i j d h within passes =
      let long : length ys ≡ length xs = sym (ap length is) ∙ length-reverse xs in
      let at_j = read_back xs ys j (length xs - 1 - j) d is (omega arith) in
      let at_i = read_back xs ys i (length xs - 1 - i) d is (omega arith) in
      let up_to : AtMost cmp (get_or xs j d) (get_or xs i d) = subst (λ a. AtMost cmp a (get_or xs i d)) at_j (subst (λ b. AtMost cmp (get_or ys (length xs - 1 - j) d) b) at_i (rises ys up (length xs - 1 - j) (length xs - 1 - i) d (omega arith) (omega arith))) in
      not_gt_le (cmp e (get_or xs i d)) (at_most_chain o e (get_or xs j d) (get_or xs i d) (le_not_gt (cmp e (get_or xs j d)) passes) up_to)

  -- what is less than the first is no copy of any
  below_all : (e x : E) (xs : List E) → IsAscending cmp (x ∷ xs) → cmp e x ≡ Less → (b : Bool) → has cmp e xs ≡ b → b ≡ false
  below_all e x xs up less true q = sym (ap is_gt (o.total.antisymm x e ∙ ap ordering_reverse less)) ∙ up.0 e (Has-test o e xs q)
  below_all e x xs up less false q = refl

  -- where the first that is not less is no copy, there is none
  pub absent_if : (e : E) (xs : List E) (d : E) → IsAscending cmp xs → (position_or_len (λ y. is_le (cmp e y)) xs < length xs → is_eq (cmp e (get_or xs (position_or_len (λ y. is_le (cmp e y)) xs) d)) ≡ false) → has cmp e xs ≡ false
  absent_if e [] d up h = refl
  absent_if e (x ∷ xs) d up h = go (cmp e x) refl h (absent_if e xs d up.1)
    where
      go : (r : Ordering) → cmp e x ≡ r
          → (cond (not (is_le r)) (1 + position_or_len (λ y. is_le (cmp e y)) xs) 0 < length (x ∷ xs) → is_eq (cmp e (get_or (x ∷ xs) (cond (not (is_le r)) (1 + position_or_len (λ y. is_le (cmp e y)) xs) 0) d)) ≡ false)
          → ((position_or_len (λ y. is_le (cmp e y)) xs < length xs → is_eq (cmp e (get_or xs (position_or_len (λ y. is_le (cmp e y)) xs) d)) ≡ false) → has cmp e xs ≡ false)
          → (is_eq r || has cmp e xs) ≡ false
      go Less q h rest = below_all e x xs up q (has cmp e xs) refl
      go Equal q h rest = absurd (true≢false (sym (ap is_eq q) ∙ h (omega arith)))
      go Greater q h rest = rest (λ l. let next : 1 + position_or_len (λ y. is_le (cmp e y)) xs ≡ suc (position_or_len (λ y. is_le (cmp e y)) xs) = omega arith in sym (ap (λ k. is_eq (cmp e (get_or (x ∷ xs) k d))) next) ∙ h (omega arith))

  -- in descending order those that are greater stand first
  pub greater_first : (e : E) (xs ys : List E) → reverse xs ≡ ys → IsAscending cmp ys → IsPartitionedBy (λ y. is_lt (cmp e y)) xs
  greater_first e xs ys is up i j d h within passes =
      let long : length ys ≡ length xs = sym (ap length is) ∙ length-reverse xs in
      let at_j = read_back xs ys j (length xs - 1 - j) d is (omega arith) in
      let at_i = read_back xs ys i (length xs - 1 - i) d is (omega arith) in
      let up_to : AtMost cmp (get_or xs j d) (get_or xs i d) = subst (λ a. AtMost cmp a (get_or xs i d)) at_j (subst (λ b. AtMost cmp (get_or ys (length xs - 1 - j) d) b) at_i (rises ys up (length xs - 1 - j) (length xs - 1 - i) d (omega arith) (omega arith))) in
      greater e (get_or xs j d) (get_or xs i d) passes up_to (is_lt (cmp e (get_or xs i d))) refl
    where
      greater : (e b a : E) → is_lt (cmp e b) ≡ true → AtMost cmp b a → (t : Bool) → is_lt (cmp e a) ≡ t → t ≡ true
      greater e b a l m true q = refl
      greater e b a l m false q =
          let back : AtMost cmp a e = ap is_gt (o.total.antisymm a e) ∙ not_lt_back (cmp e a) q in
          absurd (true≢false (sym (ap is_gt (o.total.antisymm b e) ∙ lt_back (cmp e b) l) ∙ at_most_chain o b a e m back))

  -- where all are at least e, the first that is not less is the first
  starts_here : (e : E) (ys : List E) → Each cmp (λ y. AtMost cmp e y) ys → position_or_len (λ y. is_le (cmp e y)) ys ≡ 0
  starts_here e [] all = refl
  starts_here e (y ∷ ys) all = let here : is_le (cmp e y) ≡ true = not_gt_le (cmp e y) (Each-head o (λ z. AtMost cmp e z) y ys all) in rw here refl

  -- the copies stand between the first that is not less and the first that is greater
  pub copies_between : (e : E) (ys : List E) → IsAscending cmp ys → copies cmp e ys + position_or_len (λ y. is_le (cmp e y)) ys ≡ position_or_len (λ y. is_lt (cmp e y)) ys
  copies_between e [] up = refl
  copies_between e (y ∷ ys) up = go (cmp e y) refl (copies_between e ys up.1)
    where
      go : (r : Ordering) → cmp e y ≡ r → copies cmp e ys + position_or_len (λ y. is_le (cmp e y)) ys ≡ position_or_len (λ y. is_lt (cmp e y)) ys
          → cond (is_eq r) 1 0 + copies cmp e ys + cond (not (is_le r)) (1 + position_or_len (λ y. is_le (cmp e y)) ys) 0 ≡ cond (not (is_lt r)) (1 + position_or_len (λ y. is_lt (cmp e y)) ys) 0
      go Less q h =
          let none : copies cmp e ys ≡ 0 = absent o e ys (λ k. true≢false (sym (ap is_gt (o.total.antisymm y e ∙ ap ordering_reverse q)) ∙ up.0 e k)) in
          omega arith
      go Equal q h =
          let same : e ≡ y = o.same e y q in
          let first = starts_here e ys (subst (λ x. Each cmp (λ z. AtMost cmp x z) ys) (sym same) up.0) in
          omega arith
      go Greater q h = omega arith
