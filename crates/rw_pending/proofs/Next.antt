-- The next event: the least of those that wait, taken from the initial ones, from those at hand, or from the later ones.
use Rattle.std.proofs.Common.{◌≡◌, ℕ, ◌<◌, ◌≤◌, List, [], ◌∷◌, ◌++◌, refl, sym, ◌∙◌, ap, subst, arith, append-nil, true, true≢false, Option, Some, None, Bor, All, IfNone, IfSome, IsSome, IsPermutation}
use Rattle.std.specs.declared.cmp.Ordering.{Ordering}
use Rattle.std.specs.Option.{is_some, option_copied, option_to_list}
use Rattle.std.specs.List.{slice_get}
use Rattle.std.proofs.lemmas.List.Elements.{All-cons, All-head, All-nil}
use Rattle.std.proofs.lemmas.List.Sorted.{All-permutation, IsPermutation-refl, IsPermutation-sym, IsPermutation-trans, IsPermutation-append_left, IsPermutation-append_right}
use Rattle.rw_vt.specs.declared.event.Event.{Event}
use Rattle.rw_vt.specs.Order.{AtMost, event_cmp}
use Rattle.rw_pending.specs.Later.{HasMoved, IsLeft}
use Rattle.rw_pending.specs.Pending.{AreAround, IsDue, IsNextEvent, IsReached, IsTakenFromOne, time_or}
use Rattle.rw_pending.proofs.Waiting.{around_after, around_left, least_of_all, no_back, nothing_waits, taken_from_all}

module _ {B : Type 0} (order : B → B → Ordering) where
  -- what is least of the initial events and those at hand is the next event, once those of the next time are at hand
  pub next_is : (t s : ℕ) (xs ys later us vs ws left : List (Event B)) (next : Option (Event B)) → AreAround s xs vs left → (vs ≡ [] → IsDue xs left) → IsPermutation (ys ++ later) (vs ++ left)
      → IsTakenFromOne xs vs next us ws → IfSome next (λ e. All (AtMost (event_cmp order) e) xs × All (AtMost (event_cmp order) e) vs) → IfNone next ((xs ≡ []) × (vs ≡ [])) → IsNextEvent order t xs ys later next us ws left
  next_is t s xs ys later us vs ws left next around due moved taken least none = record {
    none = nothing_waits order xs ys later vs left next none due moved;
    none_left = nothing_left next taken none;
    least = least_of_all order s xs ys later us vs ws left next least after moved;
    taken = taken_from_all order xs ys later us vs ws left next moved taken;
    around = by_next next taken none after;
  }
    where
      after : AreAround (time_or next s) us ws left
      after = around_after order s xs vs left us ws next around due taken least

      nothing_left : (n : Option (Event B)) → IsTakenFromOne xs vs n us ws → IfNone n ((xs ≡ []) × (vs ≡ [])) → IfNone n (us ++ (ws ++ left) ≡ [])
      nothing_left (Some e) taken none = tt
      nothing_left None taken none =
          let us_none = no_back order taken.from_first us (sym taken.first ∙ none.0) in
          let ws_none = no_back order taken.from_second ws (sym taken.second ∙ none.1) in
          let left_none : left ≡ [] = subst (λ l. IsDue l left) none.0 (due none.1) in
          ap (λ l. l ++ (ws ++ left)) us_none.1 ∙ ap (λ l. l ++ left) ws_none.1 ∙ left_none

      by_next : (n : Option (Event B)) → IsTakenFromOne xs vs n us ws → IfNone n ((xs ≡ []) × (vs ≡ [])) → AreAround (time_or n s) us ws left → AreAround (time_or n t) us ws left
      by_next (Some e) taken none after = after
      by_next None taken none after =
          let us_none = no_back order taken.from_first us (sym taken.first ∙ none.0) in
          let ws_none = no_back order taken.from_second ws (sym taken.second ∙ none.1) in
          let left_none : left ≡ [] = subst (λ l. IsDue l left) none.0 (due none.1) in
          record {
            initial_from = subst (All (λ f. t ≤ f.time)) (sym us_none.1) (All-nil (λ f. t ≤ f.time));
            now_at = subst (All (λ f. f.time ≡ t)) (sym ws_none.1) (All-nil (λ f. f.time ≡ t));
            later_past = subst (All (λ f. t < f.time)) (sym left_none) (All-nil (λ f. t < f.time));
          }

  pub next_reached : (t : ℕ) {xs ys later us vs ws left : List (Event B)} (next : Option (Event B)) → IsReached xs ys later vs left
      → IsTakenFromOne xs vs next us ws → IfSome next (λ e. All (AtMost (event_cmp order) e) xs × All (AtMost (event_cmp order) e) vs) → IfNone next ((xs ≡ []) × (vs ≡ [])) → IsNextEvent order t xs ys later next us ws left
  next_reached t {xs} {ys} {later} {us} {vs} {ws} {left} next reached taken least none = next_is t reached.time xs ys later us vs ws left next reached.around reached.due reached.moved taken least none

  -- no event was sent that is not later than the first initial one
  pub next_initial : (t : ℕ) (xs ys later us : List (Event B)) (next : Option (Event B)) → AreAround t xs ys later → ys ≡ [] → IsDue xs later
      → xs ≡ option_to_list next ++ us → IfSome next (λ e. All (AtMost (event_cmp order) e) xs) → IfNone next (xs ≡ []) → IsNextEvent order t xs ys later next us ys later
  next_initial t xs ys later us next around hand due taken least none =
      next_is t t xs ys later us ys ys later next around (λ _. due) (IsPermutation-refl (ys ++ later))
      (record { from_first = option_to_list next; from_second = []; first = taken; second = refl; both = append-nil (option_to_list next) })
      (both next least) (nothing next none)
    where
      both : (n : Option (Event B)) → IfSome n (λ e. All (AtMost (event_cmp order) e) xs) → IfSome n (λ e. All (AtMost (event_cmp order) e) xs × All (AtMost (event_cmp order) e) ys)
      both None h = tt
      both (Some e) h = (h, subst (All (AtMost (event_cmp order) e)) (sym hand) (All-nil (AtMost (event_cmp order) e)))

      nothing : (n : Option (Event B)) → IfNone n (xs ≡ []) → IfNone n ((xs ≡ []) × (ys ≡ []))
      nothing None h = (h, hand)
      nothing (Some e) h = tt

-- some events are at hand
pub reached_before : {B : Type 0} (t : ℕ) (xs ys later : List (Event B)) → AreAround t xs ys later → (ys ≡ [] → ⊥) → IsReached xs ys later ys later
reached_before t xs ys later around some = record { time = t; around = around; due = λ none. absurd (some none); moved = IsPermutation-refl (ys ++ later) }

-- the events of the next time, of which `first` is one, are at hand
pub reached_gathered : {B : Type 0} {first : Event B} {xs ys later mid vs left : List (Event B)} → ys ≡ [] → IsPermutation later (first ∷ mid) → All (λ f. first.time ≤ f.time) xs
    → IsPermutation (first ∷ mid) (vs ++ left) → All (λ f. f.time ≡ first.time) vs → All (λ f. first.time < f.time) left → IsReached xs ys later vs left
reached_gathered {B} {first} {xs} {ys} {later} {mid} {vs} {left} hand out from moved at past = record {
  time = first.time;
  around = record { initial_from = from; now_at = at; later_past = past };
  due = λ none. absurd (some_there none);
  moved = subst (λ l. IsPermutation (l ++ later) (vs ++ left)) (sym hand) (IsPermutation-trans later (first ∷ mid) (vs ++ left) out moved);
}
  where
    some_there : vs ≡ [] → ⊥
    some_there none =
        let there = All-permutation (λ f. first.time < f.time) (vs ++ left) (first ∷ mid) (IsPermutation-sym (first ∷ mid) (vs ++ left) moved) (subst (λ l. All (λ f. first.time < f.time) (l ++ left)) (sym none) past) in
        let bad = All-head (λ f. first.time < f.time) first mid there in
        absurd (omega arith)

-- an event and those that moved behind it, sorted
module _ {B : Type 0} {first : Event B} {later left room all now : List (Event B)} (h : HasMoved first.time later left room all) (held : room ≡ first ∷ []) (filled : IsPermutation all now) where
  moved_now : IsPermutation (first ∷ h.moved) now
  moved_now = subst (λ l. IsPermutation l now) (h.behind ∙ ap (λ l. l ++ h.moved) held) filled

  pub gathered : IsPermutation (first ∷ later) (now ++ left)
  gathered = IsPermutation-trans (first ∷ later) ((first ∷ h.moved) ++ left) (now ++ left) (IsPermutation-append_right (first ∷ []) later (h.moved ++ left) h.parts) (IsPermutation-append_left left (first ∷ h.moved) now moved_now)

  pub gathered_times : All (λ e. e.time ≡ first.time) now × All (λ e. first.time < e.time) left
  gathered_times = (All-permutation (λ e. e.time ≡ first.time) (first ∷ h.moved) now moved_now (All-cons (λ e. e.time ≡ first.time) first h.moved refl h.of_time), h.later)

pub some_first : {E : Type 0} (first : Option (Bor E)) (xs : List E) → option_copied first ≡ slice_get xs 0 → is_some first ≡ true → xs ≡ [] → ⊥
some_first None xs is on none = true≢false (sym on)
some_first (Some f) xs is on none = let gone : Some f.now ≡ None = is ∙ ap (λ l. slice_get l 0) none in absurd cc

-- what is left once some event is taken, and others are lost
pub lost_after : {B : Type 0} (t : ℕ) (xs ys later mid left now : List (Event B)) (first : Event B) → AreAround t xs ys later → IsPermutation later (first ∷ mid) → now ≡ [] → IsLeft mid left → AreAround t xs now left
lost_after t xs ys later mid left now first around out none lost =
    let once = around_left t xs ys later mid around (record { gone = first ∷ []; parts = out }) in
    let twice = around_left t xs ys mid left once lost in
    record { initial_from = twice.initial_from; now_at = subst (All (λ f. f.time ≡ t)) (sym none) (All-nil (λ f. f.time ≡ t)); later_past = twice.later_past }

-- the event that was sent for the next time is the only one for it
pub reached_alone : {B : Type 0} {first : Event B} {xs ys later left : List (Event B)} → ys ≡ [] → IsPermutation later (first ∷ left) → All (λ f. first.time ≤ f.time) xs → All (λ f. first.time < f.time) left
    → IsReached xs ys later (first ∷ []) left
reached_alone {first} {left} hand out from past = reached_gathered hand out from (IsPermutation-refl (first ∷ left)) (All-cons (λ f. f.time ≡ first.time) first [] refl (All-nil (λ f. f.time ≡ first.time))) past

-- a least event that was sent is before no other, and no initial event is before it
pub due_at : {B : Type 0} {next : Option (Event B)} {x : Event B} (later initial : List (Event B)) → next ≡ Some x → IfSome next (λ e. All (λ f. e.time ≤ f.time) later × All (λ f. e.time ≤ f.time) initial)
    → All (λ f. x.time ≤ f.time) later × All (λ f. x.time ≤ f.time) initial
due_at later initial is h = subst (λ n. IfSome n (λ e. All (λ f. e.time ≤ f.time) later × All (λ f. e.time ≤ f.time) initial)) is h

-- what is given is no empty answer
pub not_none : {E : Type 0} (P : Type 0) (next : Option E) → IsSome next → IfNone next P
not_none P None h = absurd cc
not_none P (Some e) h = tt
