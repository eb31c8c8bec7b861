-- What is there and what is owed, where a world is taken apart, and what is left of the one without the other.
use Rattle.std.proofs.Common.{◌≡◌, ℕ, zero, suc, ◌+◌, ◌<◌, ◌≤◌, true, false, cond, List, [], ◌∷◌, ◌++◌, length, get_or, refl, sym, ap, ◌∙◌, subst, arith, true≢false, inl, inr, append_assoc, append-nil}
use Rattle.std.proofs.Math.ListN.{take}
use Rattle.std.specs.declared.cmp.Ordering.{Ordering}
use Rattle.rw_vt.specs.declared.event.Event.{Event}
use Rattle.rw_vt.specs.declared.event.Letter.{Letter}
use Rattle.rw_vt.specs.Order.{weigh, one_if_same, copies, has, without, Has, in_order}
use Rattle.rw_vt.specs.Letters.{messages, antis}
use Rattle.rw_vt.proofs.Sorting.{IsExactOrder, absent, Has-append, Has-cons, copies-in_order}
use Rattle.rw_vt.proofs.Bags.{copies-without}
use Rattle.rw_bag.proofs.Cited.{has_some}

weigh_more : {X : Type 0} (h : X → ℕ) (xs : List X) (i : ℕ) (d : X) → i < length xs → weigh h (take (i + 1) xs) ≡ weigh h (take i xs) + h (get_or xs i d)
weigh_more h [] i d l = absurd (omega arith)
weigh_more h (x ∷ xs) zero d l = omega arith
weigh_more h (x ∷ xs) (suc i) d l = let next : suc i + 1 ≡ suc (i + 1) = omega arith in rw next (omega (arith, weigh_more h xs i d (omega arith)))

module _ {B : Type 0} (cmp : Event B → Event B → Ordering) (e : Event B) (ls : List (Letter B)) (i : ℕ) (l : Letter B) (within : i < length ls) (is : l ≡ get_or ls i l) where
  -- one more letter, of which this is one
  pub message_more : l.anti ≡ false → (messages cmp e (take (i + 1) ls) ≡ messages cmp e (take i ls) + one_if_same cmp e l.event) × (antis cmp e (take (i + 1) ls) ≡ antis cmp e (take i ls))
  message_more message = (
    weigh_more (λ (k : Letter B). cond k.anti 0 (one_if_same cmp e k.event)) ls i l within ∙ ap (λ n. messages cmp e (take i ls) + n) (ap (λ (k : Letter B). cond k.anti 0 (one_if_same cmp e k.event)) (sym is) ∙ ap (λ b. cond b 0 (one_if_same cmp e l.event)) message),
    weigh_more (λ (k : Letter B). cond k.anti (one_if_same cmp e k.event) 0) ls i l within ∙ ap (λ n. antis cmp e (take i ls) + n) (ap (λ (k : Letter B). cond k.anti (one_if_same cmp e k.event) 0) (sym is) ∙ ap (λ b. cond b (one_if_same cmp e l.event) 0) message) ∙ omega arith,
  )

  pub anti_more : l.anti ≡ true → (messages cmp e (take (i + 1) ls) ≡ messages cmp e (take i ls)) × (antis cmp e (take (i + 1) ls) ≡ antis cmp e (take i ls) + one_if_same cmp e l.event)
  anti_more anti = (
    weigh_more (λ (k : Letter B). cond k.anti 0 (one_if_same cmp e k.event)) ls i l within ∙ ap (λ n. messages cmp e (take i ls) + n) (ap (λ (k : Letter B). cond k.anti 0 (one_if_same cmp e k.event)) (sym is) ∙ ap (λ b. cond b 0 (one_if_same cmp e l.event)) anti) ∙ omega arith,
    weigh_more (λ (k : Letter B). cond k.anti (one_if_same cmp e k.event) 0) ls i l within ∙ ap (λ n. antis cmp e (take i ls) + n) (ap (λ (k : Letter B). cond k.anti (one_if_same cmp e k.event) 0) (sym is) ∙ ap (λ b. cond b (one_if_same cmp e l.event) 0) anti),
  )

pub none_length : {A : Type 0} (xs : List A) → length xs ≡ 0 → xs ≡ []
none_length [] h = refl
none_length (x ∷ xs) h = absurd (omega arith)

-- one event more in a list
pub pushed : {E : Type 0} (cmp : E → E → Ordering) (e x : E) (xs : List E) → copies cmp e (xs ++ x ∷ []) ≡ copies cmp e xs + one_if_same cmp e x
pushed cmp e x [] = omega arith
pushed cmp e x (y ∷ ys) = omega (arith, pushed cmp e x ys)

-- What is left of what is there without what is owed, event by event: `rest` is still to be gone through, `still` still to be found
pub record IsSoFar {E : Type 0} (cmp : E → E → Ordering) (there owed left rest still : List E) : Type 0 where
  pub sum : (e : E) → copies cmp e left + copies cmp e owed + copies cmp e rest ≡ copies cmp e there + copies cmp e still
  pub either : (e : E) → 0 < copies cmp e left → copies cmp e still ≡ 0

module _ {E : Type 0} {cmp : E → E → Ordering} (o : IsExactOrder cmp) where
  none_of : (x : E) (xs : List E) → has cmp x xs ≡ false → copies cmp x xs ≡ 0
  none_of x [] h = refl
  none_of x (y ∷ ys) h = absent o x (y ∷ ys) (λ m. true≢false (sym (has_some o x (y ∷ ys) m) ∙ h))

  pub so_far_first : (there owed still : List E) → still ≡ in_order cmp owed → IsSoFar cmp there owed [] there still
  so_far_first there owed still is = record {
    sum = λ e. (let same : copies cmp e still ≡ copies cmp e owed = ap (copies cmp e) is ∙ copies-in_order o e owed in omega arith);
    either = λ e h. absurd (omega arith);
  }

  pub so_far_kept : (there owed left rest still more less : List E) (x : E) → IsSoFar cmp there owed left (x ∷ rest) still → has cmp x still ≡ false → more ≡ left ++ x ∷ [] → less ≡ still → IsSoFar cmp there owed more rest less
  so_far_kept there owed left rest still more less x so_far none more_is less_is = record {
    sum = λ e. omega (arith, so_far.sum e, ap (copies cmp e) more_is, pushed cmp e x left, ap (copies cmp e) less_is);
    either = λ e h. ap (copies cmp e) less_is ∙ elim (Has-append o e left (x ∷ []) (subst (λ l. Has cmp l e) more_is h)) [
      | inl m ↦ so_far.either e m
      | inr m ↦ elim (Has-cons o e x [] m) [ inl same ↦ ap (λ a. copies cmp a still) same ∙ none_of x still none | inr k ↦ absurd (omega (arith, k)) ]
    ];
  }

  pub so_far_taken : (there owed left rest still less : List E) (x : E) → IsSoFar cmp there owed left (x ∷ rest) still → has cmp x still ≡ true → less ≡ without cmp x still → IsSoFar cmp there owed left rest less
  so_far_taken there owed left rest still less x so_far some less_is = record {
    sum = λ e. omega (arith, so_far.sum e, copies-without o e x still some, ap (copies cmp e) less_is);
    either = λ e h. (let none = so_far.either e h in let most = copies-without o e x still some in let same = ap (copies cmp e) less_is in omega arith);
  }

  pub so_far_last : (there owed left still : List E) → ((e : E) → copies cmp e owed ≤ copies cmp e there) → IsSoFar cmp there owed left [] still → (e : E) → copies cmp e left + copies cmp e owed ≡ copies cmp e there
  so_far_last there owed left still enough so_far e = go (copies cmp e left) refl
    where
      go : (n : ℕ) → copies cmp e left ≡ n → copies cmp e left + copies cmp e owed ≡ copies cmp e there
      go zero is = omega (arith, is, enough e, so_far.sum e)
      go (suc n) is = let none = so_far.either e (omega arith) in omega (arith, none, so_far.sum e)

-- One process after another is taken apart

-- what is one more moved from the front of what follows to the end of what there is
pub list_taken : {A : Type 0} (before now some rest follows all : List A) → now ≡ before ++ some → some ++ rest ≡ follows → before ++ follows ≡ all → now ++ rest ≡ all
list_taken before now some rest follows all is parts known = ap (λ l. l ++ rest) is ∙ append_assoc before some rest ∙ ap (λ l. before ++ l) parts ∙ known

pub all_taken : {A : Type 0} (now rest all : List A) → rest ≡ [] → now ++ rest ≡ all → now ≡ all
all_taken now rest all none known = sym (append-nil now) ∙ ap (λ l. now ++ l) (sym none) ∙ known
