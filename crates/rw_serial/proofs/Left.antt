-- How much of a whole run is left, said by the events that are pending alone.
use Rattle.std.proofs.Common.{◌≡◌, ℕ, ◌+◌, ◌<◌, ◌≤◌, Bool, true, false, cond, List, [], ◌∷◌, ◌++◌, Some, get_or, length, refl, sym, ◌∙◌, ap, subst, arith, true≢false, inl, inr}
use Rattle.std.specs.declared.cmp.Ordering.{Ordering}
use Rattle.std.specs.Ordering.{is_gt, is_eq}
use Rattle.rw_vt.specs.Order.{AtMost, copies, Has, IsAscending, in_order}
use Rattle.rw_vt.proofs.Sorting.{IsExactOrder, at_most_itself, at_most_chain, at_most_both, tied, copies-head, copies-in_order, IsAscending-in_order, Has-head, Has-cons}
use Rattle.std.specs.List.{slice_get, slice_set, All}
use Rattle.std.specs.List.Sorted.{IsPermutation}
use Rattle.rw_vt.specs.declared.event.Event.{Event}
use Rattle.rw_vt.specs.Valid.{IsInRange}
use Rattle.rw_vt.specs.System.{System, state_after, map_from, flatten, journal_below}
use Rattle.rw_vt.proofs.Runs.{none_sent_back}
use Rattle.rw_serial.proofs.Lists.{at_list}
use Rattle.rw_serial.proofs.Midrun.{IsMidrun, begins, same_counts, next_there, next_least, next_valid, next_well_formed, start_of, state_there, added, after_x, midrun_step, copies_to_come}

-- how many are greater than x
abbrev pub greater : {E : Type 0} → (E → E → Ordering) → E → List E → ℕ
greater cmp x [] = 0
greater cmp x (e ∷ es) = cond (is_gt (cmp e x)) 1 0 + greater cmp x es

-- of the events `whole` of a run, where these are pending, sorted: the copies of the first, and all that are greater
abbrev pub left_from : {E : Type 0} → (E → E → Ordering) → List E → List E → ℕ
left_from cmp whole [] = 0
left_from cmp whole (x ∷ xs) = copies cmp x (x ∷ xs) + greater cmp x whole

-- of the events `whole` of a run, where these are pending, those that are still to be executed
unfoldable pub left : {E : Type 0} → (E → E → Ordering) → List E → List E → ℕ
left cmp whole pending = left_from cmp whole (in_order cmp pending)

module _ {E : Type 0} {cmp : E → E → Ordering} (o : IsExactOrder cmp) where
  -- one event e, seen from z, which is above x
  one_above : (x z e : E) (is gt gt_x : Bool) → is_eq (cmp z e) ≡ is → is_gt (cmp e z) ≡ gt → is_gt (cmp e x) ≡ gt_x → is_gt (cmp z x) ≡ true → AtMost cmp x z → cond is 1 0 + cond gt 1 0 ≤ cond gt_x 1 0
  one_above x z e true gt gt_x h k m above low =
      let same : z ≡ e = tied o z e h in
      let no : gt ≡ false = sym k ∙ ap (λ w. is_gt (cmp e w)) same ∙ at_most_itself o e in
      let yes : gt_x ≡ true = sym m ∙ ap (λ w. is_gt (cmp w x)) (sym same) ∙ above in
      rw (no, yes) (omega arith)
  one_above x z e false false gt_x h k m above low = omega arith
  one_above x z e false true true h k m above low = omega arith
  one_above x z e false true false h k m above low = absurd (true≢false (sym k ∙ at_most_chain o e x z m low))

  -- what is above x has all that is above z, and z itself
  all_above : (x z : E) → is_gt (cmp z x) ≡ true → AtMost cmp x z → (es : List E) → copies cmp z es + greater cmp z es ≤ greater cmp x es
  all_above x z above low [] = omega arith
  all_above x z above low (e ∷ es) =
      let first = one_above x z e (is_eq (cmp z e)) (is_gt (cmp e z)) (is_gt (cmp e x)) refl refl refl above low in
      let rest = all_above x z above low es in
      omega arith

  -- a least one stands first
  first_is : (P : List E) (x : E) → Has cmp P x → ((b : E) → Has cmp P b → AtMost cmp x b) → (rest : List E) × (in_order cmp P ≡ x ∷ rest)
  first_is P x there least =
      begins o (in_order cmp P) x (IsAscending-in_order o P) (let same = copies-in_order o x P in omega arith) (λ b h. least b (let same = copies-in_order o b P in omega arith))

  left_is : (whole P : List E) (x : E) → Has cmp P x → ((b : E) → Has cmp P b → AtMost cmp x b) → left cmp whole P ≡ copies cmp x P + greater cmp x whole
  unfolding left
  left_is whole P x there least =
      let first = first_is P x there least in
      let all = ap (left_from cmp whole) first.1 in
      let here = ap (copies cmp x) first.1 in
      omega (arith, all, here, copies-in_order o x P)

  -- a sorted list begins with its least element
  least_first : (x : E) (xs : List E) → IsAscending cmp (x ∷ xs) → (b : E) → Has cmp (x ∷ xs) b → AtMost cmp x b
  least_first x xs up b h = elim (Has-cons o b x xs h) [ inl e ↦ subst (AtMost cmp x) (sym e) (at_most_itself o x) | inr m ↦ up.0 b m ]

  -- once a copy of the least event x is executed, and what it sends is later, less is left
  pub left_falls : (whole P Q : List E) (x : E) → Has cmp P x → ((b : E) → Has cmp P b → AtMost cmp x b) → ((b : E) → Has cmp Q b → AtMost cmp x b) → copies cmp x Q < copies cmp x P
      → ((z : E) → Has cmp Q z → ((b : E) → Has cmp Q b → AtMost cmp z b) → copies cmp z Q ≤ copies cmp z whole) → left cmp whole Q < left cmp whole P
  unfolding left
  left_falls whole P Q x there least later fewer room = rw (left_is whole P x there least) (by_first (in_order cmp Q) refl)
    where
      by_test : (z : E) (zs : List E) (b : Bool) → is_gt (cmp z x) ≡ b → AtMost cmp x z → copies cmp z (z ∷ zs) ≡ copies cmp z Q → copies cmp z Q ≤ copies cmp z whole
          → left_from cmp whole (z ∷ zs) < copies cmp x P + greater cmp x whole
      by_test z zs true above low counts fit = let all = all_above x z above low whole in omega arith
      by_test z zs false journal_below low counts fit =
          let same : x ≡ z = at_most_both o x z low journal_below in
          let here = ap (λ w. copies cmp w Q) same in
          let others = ap (λ w. greater cmp w whole) same in
          omega arith

      by_first : (qs : List E) → in_order cmp Q ≡ qs → left_from cmp whole qs < copies cmp x P + greater cmp x whole
      by_first [] is = omega arith
      by_first (z ∷ zs) is =
          let counts : (b : E) → copies cmp b (z ∷ zs) ≡ copies cmp b Q = λ b. sym (ap (copies cmp b) is) ∙ copies-in_order o b Q in
          let here : Has cmp Q z = let same = counts z in let first = Has-head o z zs in omega arith in
          let up : IsAscending cmp (z ∷ zs) = subst (IsAscending cmp) is (IsAscending-in_order o Q) in
          let first : (b : E) → Has cmp Q b → AtMost cmp z b = λ b h. least_first z zs up b (let same = counts b in omega arith) in
          by_test z zs (is_gt (cmp z x)) refl (later z here) (counts z) (room z here first)

-- each step of a run leaves less of it: from clauses that speak of whatever state stands there
module _ {S B : Type 0} {y : System S B} {WellFormed : ℕ → S → Type 0} {ss : List S} {js : List (List (Event B))} {P : List (Event B)} (run : IsMidrun y WellFormed ss js P)
    {x : Event B} {R : List (Event B)} (taken : IsPermutation P (x ∷ R)) (least : All (AtMost y.rules.order x) P) where
  pub midrun_falls : (ss' : List S) (js' : List (List (Event B))) (sent Q : List (Event B))
      → ((s : S) → slice_get ss x.to ≡ Some s → ss' ≡ slice_set ss x.to (y.rules.step x.to s x).0)
      → js' ≡ slice_set js x.to (get_or js x.to [] ++ x ∷ [])
      → ((s : S) → slice_get ss x.to ≡ Some s → sent ≡ (y.rules.step x.to s x).1)
      → IsPermutation (R ++ sent) Q
      → (t : ℕ) → ((e : Event B) → IsInRange (length y.starts) e → e.time < t)
      → left y.rules.order (flatten (map_from 0 (λ q _. journal_below y t q) y.starts)) Q < left y.rules.order (flatten (map_from 0 (λ q _. journal_below y t q) y.starts)) P
  midrun_falls ss' js' sent Q states journals sends joined t times =
      left_falls o (flatten (map_from 0 (λ q _. journal_below y t q) y.starts)) P Q x (next_there run taken least) (next_least run taken least) later fewer room
    where
      o : IsExactOrder y.rules.order
      o = run.law.rules.exact

      s : S
      s = state_after (y.rules.step x.to) (start_of run taken least).0 (at_list js x.to)

      there : slice_get ss x.to ≡ Some s
      there = state_there run taken least

      goes_on : IsPermutation (R ++ (y.rules.step x.to s x).1) Q
      goes_on = subst (λ l. IsPermutation (R ++ l) Q) (sends s there) joined

      next : IsMidrun y WellFormed ss' js' Q
      next = midrun_step run taken least s there ss' js' Q (states s there) journals goes_on

      later : (b : Event B) → Has y.rules.order Q b → AtMost y.rules.order x b
      later = after_x run taken least s there ss' js' Q (states s there) journals goes_on

      fewer : copies y.rules.order x Q < copies y.rules.order x P
      fewer =
          let none = none_sent_back run.law.rules x.to s x x (next_well_formed run taken least s there) (next_valid run taken least) refl (omega arith) in
          omega (arith, none, same_counts run taken least x, copies-head o x R, added run taken least s there ss' js' Q (states s there) journals goes_on x)

      room : (z : Event B) → Has y.rules.order Q z → ((b : Event B) → Has y.rules.order Q b → AtMost y.rules.order z b) → copies y.rules.order z Q ≤ copies y.rules.order z (flatten (map_from 0 (λ q _. journal_below y t q) y.starts))
      room z here first = copies_to_come next z here first t (times z (next.law.inside z (next.mid.sound z here)))
