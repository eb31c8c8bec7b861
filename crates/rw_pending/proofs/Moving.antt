-- Events that are taken out of what waits and put back there, and the least time of what waits.
use Rattle.std.proofs.Common.{◌≡◌, ℕ, ◌+◌, ◌<◌, ◌≤◌, true, false, true≢false, List, [], ◌∷◌, ◌++◌, refl, sym, subst, ap, ◌∙◌, arith, All, IsPermutation, append_assoc, append-nil, length, length-append, Option, Some, None, Bor, IfSome}
use Rattle.std.specs.List.{slice_get}
use Rattle.std.specs.Option.{is_some, option_copied, option_map}
use Rattle.std.specs.declared.cmp.Ordering.{Ordering}
use Rattle.std.proofs.lemmas.List.Elements.{All-append, All-cons, All-head, All-nil, All-weaker}
use Rattle.std.proofs.lemmas.List.Sorted.{All-permutation, IsPermutation-append_comm, IsPermutation-append_left, IsPermutation-append_right, IsPermutation-sym, IsPermutation-trans, length_permutation}
use Rattle.rw_vt.specs.declared.event.Event.{Event}
use Rattle.rw_vt.specs.Order.{AtMost, event_cmp}
use Rattle.rw_vt.proofs.EventOrder.{time_at_most}
use Rattle.rw_pending.specs.Later.{HasMoved, IsLeastTime}
use Rattle.rw_pending.specs.Pending.{AreAround, HasMovedOn}
use Rattle.rw_pending.proofs.ByTime.{All-back, All-front}

-- All events move to the end of a list

module _ {B : Type 0} {t : ℕ} {before left taken all : List (Event B)} (h : HasMoved t before left taken all) where
  pub moved_fewer : IsLeastTime before (Some t) → length left < length before
  moved_fewer least = go h.moved h.parts
    where
      go : (moved : List (Event B)) → IsPermutation before (moved ++ left) → length left < length before
      go [] parts = absurd (least.1 (All-permutation (λ e. t < e.time) left before (IsPermutation-sym before left parts) h.later))
      go (x ∷ xs) parts = omega (arith, length_permutation before (x ∷ (xs ++ left)) parts, length-append xs left)

  pub moved_on : (whole : List (Event B)) → IsPermutation whole (taken ++ before) → IsPermutation whole (all ++ left)
  moved_on whole so_far =
      IsPermutation-trans whole (taken ++ before) (all ++ left) so_far
      (subst (λ l. IsPermutation (taken ++ before) (l ++ left)) (sym h.behind)
      (subst (IsPermutation (taken ++ before)) (sym (append_assoc taken h.moved left)) (IsPermutation-append_right taken before (h.moved ++ left) h.parts)))

-- The first events of a list move to the end of another

module _ {B : Type 0} where
  pub moved_none : (before taken : List (Event B)) → HasMovedOn before before taken taken
  moved_none before taken = record { moved = []; parts = refl; behind = sym (append-nil taken) }

  pub moved_one_more : {before mid left taken all : List (Event B)} (x : Event B) → HasMovedOn before mid taken all → mid ≡ x ∷ left → HasMovedOn before left taken (all ++ x ∷ [])
  moved_one_more {left} {taken} x h is = record {
    moved = h.moved ++ x ∷ [];
    parts = h.parts ∙ ap (λ l. h.moved ++ l) is ∙ sym (append_assoc h.moved (x ∷ []) left);
    behind = ap (λ l. l ++ x ∷ []) h.behind ∙ append_assoc taken h.moved (x ∷ []);
  }

  joined_same : {before left taken all : List (Event B)} → HasMovedOn before left taken all → taken ++ before ≡ all ++ left
  joined_same {left} {taken} h = ap (λ l. taken ++ l) h.parts ∙ sym (append_assoc taken h.moved left) ∙ ap (λ l. l ++ left) (sym h.behind)

  -- what is taken out and what is left are what waited
  pub taken_out : {initial sent taken left at_hand others none : List (Event B)} (now later : List (Event B)) → none ≡ [] → IsPermutation (none ++ (now ++ later)) sent → HasMovedOn initial left sent taken
      → (at_hand ≡ []) × (others ≡ []) → IsPermutation (initial ++ (now ++ later)) (taken ++ (left ++ (at_hand ++ others)))
  taken_out {initial} {sent} {taken} {left} {at_hand} {others} now later empty moved some gone =
      let rest : left ++ (at_hand ++ others) ≡ left = ap (λ l. left ++ (l ++ others)) gone.0 ∙ ap (λ l. left ++ l) gone.1 ∙ append-nil left in
      subst (λ l. IsPermutation (initial ++ (now ++ later)) (taken ++ l)) (sym rest)
      (subst (IsPermutation (initial ++ (now ++ later))) (joined_same some)
      (IsPermutation-trans (initial ++ (now ++ later)) ((now ++ later) ++ initial) (sent ++ initial)
      (IsPermutation-append_comm initial (now ++ later))
      (IsPermutation-append_left initial (now ++ later) sent (subst (λ l. IsPermutation (l ++ (now ++ later)) sent) empty moved))))

  -- and nothing is left where they are fewer than were asked for
  pub taken_enough : {left at_hand others : List (Event B)} (taken sent : List (Event B)) (count : ℕ) → (length taken < length sent + count → left ≡ [])
      → (at_hand ≡ []) × (others ≡ []) → length taken < count → left ++ (at_hand ++ others) ≡ []
  taken_enough {at_hand} {others} taken sent count enough gone fewer =
      ap (λ l. l ++ (at_hand ++ others)) (enough (omega arith)) ∙ ap (λ l. l ++ others) gone.0 ∙ gone.1

-- The initial events are put with those that were sent for later

module _ {B : Type 0} where
  pub put_one_more : {whole initial left more : List (Event B)} (later : List (Event B)) (e : Event B) → initial ≡ e ∷ left → IsPermutation (later ++ e ∷ []) more → IsPermutation whole (initial ++ later) → IsPermutation whole (left ++ more)
  put_one_more {whole} {initial} {left} {more} later e is put so_far =
      IsPermutation-trans whole (e ∷ (left ++ later)) (left ++ more) (subst (λ l. IsPermutation whole (l ++ later)) is so_far)
      (IsPermutation-trans (e ∷ (left ++ later)) ((left ++ later) ++ e ∷ []) (left ++ more) (IsPermutation-append_comm (e ∷ []) (left ++ later))
      (subst (λ l. IsPermutation l (left ++ more)) (sym (append_assoc left later (e ∷ []))) (IsPermutation-append_right left (later ++ e ∷ []) more put)))

  -- they are around the same time, whatever of them was put, and whatever was lost
  pub around_rest : (t : ℕ) (gone : List (Event B)) {initial now later left rest all same : List (Event B)} → IsPermutation (initial ++ later) (left ++ all) → left ≡ gone ++ rest → same ≡ all
      → All (λ e. t < e.time) initial → AreAround t initial now later → AreAround t rest now same
  around_rest t gone {initial} {now} {later} {left} {rest} {all} {same} moved parts unchanged after around =
      let past = All-permutation (λ e. t < e.time) (initial ++ later) (left ++ all) moved (All-append (λ e. t < e.time) initial later after around.later_past) in
      let front = All-back (λ e. t < e.time) gone rest (subst (All (λ e. t < e.time)) parts (All-front (λ e. t < e.time) left all past)) in
      record {
        initial_from = All-weaker (λ e. t < e.time) (λ e. t ≤ e.time) (λ e m. omega arith) rest front;
        now_at = around.now_at;
        later_past = subst (All (λ e. t < e.time)) (sym unchanged) (All-back (λ e. t < e.time) left all past);
      }

  -- and those of another source come in their place
  pub refilled : (initial now later all source : List (Event B)) → IsPermutation (initial ++ later) all → IsPermutation ((initial ++ (now ++ later)) ++ source) (source ++ (now ++ all))
  refilled initial now later all source put =
      IsPermutation-trans ((initial ++ (now ++ later)) ++ source) (source ++ (initial ++ (now ++ later))) (source ++ (now ++ all))
      (IsPermutation-append_comm (initial ++ (now ++ later)) source)
      (IsPermutation-append_right source (initial ++ (now ++ later)) (now ++ all)
      (IsPermutation-trans (initial ++ (now ++ later)) (now ++ (initial ++ later)) (now ++ all) to_front (IsPermutation-append_right now (initial ++ later) all put)))
    where
      to_front : IsPermutation (initial ++ (now ++ later)) (now ++ (initial ++ later))
      to_front =
          subst (λ l. IsPermutation l (now ++ (initial ++ later))) (append_assoc initial now later)
          (subst (IsPermutation ((initial ++ now) ++ later)) (append_assoc now initial later) (IsPermutation-append_left later (initial ++ now) (now ++ initial) (IsPermutation-append_comm initial now)))

  -- where no event is of the time that is reached, none is at hand
  pub none_of_time : (t : ℕ) (initial now later : List (Event B)) → AreAround t initial now later → All (λ e. t < e.time) (initial ++ (now ++ later)) → now ≡ []
  none_of_time t initial [] later around after = refl
  none_of_time t initial (e ∷ es) later around after =
      let at = All-head (λ f. f.time ≡ t) e es around.now_at in
      let past = All-head (λ f. t < f.time) e (es ++ later) (All-back (λ f. t < f.time) initial (e ∷ (es ++ later)) after) in
      absurd (omega (arith, at, past))

  -- so what waits is after time 0, whatever the new source gives
  pub around_refilled : (t : ℕ) (initial now later all source : List (Event B)) → AreAround t initial now later → All (λ e. t < e.time) (initial ++ (now ++ later)) → IsPermutation (initial ++ later) all → AreAround 0 source now all
  around_refilled t initial now later all source around after put =
      let none = none_of_time t initial now later around after in
      let past = All-permutation (λ e. t < e.time) (initial ++ later) all put (All-append (λ e. t < e.time) initial later (All-front (λ e. t < e.time) initial (now ++ later) after) around.later_past) in
      record {
        initial_from = All-any source;
        now_at = subst (All (λ e. e.time ≡ 0)) (sym none) (All-nil (λ e. e.time ≡ 0));
        later_past = All-weaker (λ e. t < e.time) (λ e. 0 < e.time) (λ e m. omega arith) all past;
      }
    where
      All-any : (es : List (Event B)) → All (λ e. 0 ≤ e.time) es
      All-any [] = All-nil (λ e. 0 ≤ e.time)
      All-any (e ∷ es) = All-cons (λ e. 0 ≤ e.time) e es (omega arith) (All-any es)

-- What is put back waits with what did

pub put_in_again : {E : Type 0} (initial now later events : List E) {sent sorted given none waiting mid : List E} → IsPermutation (events ++ (now ++ later)) sent → IsPermutation sent sorted → given ≡ sorted → none ≡ [] → IsPermutation (none ++ given) waiting → IsPermutation waiting mid
    → IsPermutation ((initial ++ (now ++ later)) ++ events) (initial ++ mid)
put_in_again initial now later events {sent} {sorted} {given} {none} {waiting} {mid} moved in_order same empty put at_hand =
    let put_sorted : IsPermutation sorted waiting = subst (λ l. IsPermutation l waiting) same (subst (λ l. IsPermutation (l ++ given) waiting) empty put) in
    let whole : IsPermutation (events ++ (now ++ later)) mid =
    IsPermutation-trans (events ++ (now ++ later)) sent mid moved (IsPermutation-trans sent sorted mid in_order (IsPermutation-trans sorted waiting mid put_sorted at_hand)) in
    IsPermutation-trans ((initial ++ (now ++ later)) ++ events) (initial ++ (events ++ (now ++ later))) (initial ++ mid)
    (subst (λ l. IsPermutation l (initial ++ (events ++ (now ++ later)))) (sym (append_assoc initial (now ++ later) events))
    (IsPermutation-append_right initial ((now ++ later) ++ events) (events ++ (now ++ later)) (IsPermutation-append_comm (now ++ later) events)))
    (IsPermutation-append_right initial (events ++ (now ++ later)) mid whole)

-- What stands first in order has the least time

pub least_of_first : {B : Type 0} (order : B → B → Ordering) (xs : List (Event B)) (first : Option (Bor (Event B))) → option_copied first ≡ slice_get xs 0 → IfSome first (λ f. All (AtMost (event_cmp order) f.now) xs)
    → IsLeastTime xs (option_map (λ e. e.time) (option_copied first))
least_of_first order [] None is least = refl
least_of_first order [] (Some f) is least = cc
least_of_first order (x ∷ xs) None is least = cc
least_of_first order (x ∷ xs) (Some f) is least =
    let same : f.now.time ≡ x.time = cc in (
      All-weaker (AtMost (event_cmp order) f.now) (λ e. f.now.time ≤ e.time) (λ e h. time_at_most order f.now e h) (x ∷ xs) least,
      λ all. let later = All-head (λ e. f.now.time < e.time) x xs all in absurd (omega arith),
    )

-- the events at hand are of the least time, where there are any
pub least_at_hand : {B : Type 0} (t : ℕ) (initial now later : List (Event B)) → AreAround t initial now later → (now ≡ [] → ⊥) → IsLeastTime (initial ++ (now ++ later)) (Some t)
least_at_hand t initial [] later around some = absurd (some refl)
least_at_hand t initial (x ∷ now) later around some = (
  All-append (λ e. t ≤ e.time) initial (x ∷ (now ++ later)) around.initial_from
      (All-append (λ e. t ≤ e.time) (x ∷ now) later (All-weaker (λ e. e.time ≡ t) (λ e. t ≤ e.time) (λ e m. omega arith) (x ∷ now) around.now_at)
      (All-weaker (λ e. t < e.time) (λ e. t ≤ e.time) (λ e m. omega arith) later around.later_past)),
  λ all.
      let past = All-head (λ e. t < e.time) x (now ++ later) (All-back (λ e. t < e.time) initial (x ∷ (now ++ later)) all) in
      let at = All-head (λ e. e.time ≡ t) x now around.now_at in
      absurd (omega (arith, past, at)),
)

at_hand : {B : Type 0} (first : Option (Bor (Event B))) (now : List (Event B)) → option_copied first ≡ slice_get now 0 → is_some first ≡ true → now ≡ [] → ⊥
at_hand None now is some none = true≢false (sym some)
at_hand (Some f) [] is some none = cc
at_hand (Some f) (x ∷ now) is some none = cc

pub least_where_some : {B : Type 0} (t : ℕ) (initial now later : List (Event B)) (first : Option (Bor (Event B))) → AreAround t initial now later → option_copied first ≡ slice_get now 0 → is_some first ≡ true → IsLeastTime (initial ++ (now ++ later)) (Some t)
least_where_some t initial now later first around is some = least_at_hand t initial now later around (at_hand first now is some)

-- where nothing is at hand, the earlier of the first initial event's time and the least of the later ones
none_at_hand : {B : Type 0} (first : Option (Bor (Event B))) (now : List (Event B)) → option_copied first ≡ slice_get now 0 → is_some first ≡ false → now ≡ []
none_at_hand None [] is some = refl
none_at_hand None (x ∷ now) is some = cc
none_at_hand (Some f) now is some = absurd (true≢false some)

pub least_where_none : {B : Type 0} (initial now later : List (Event B)) (first : Option (Bor (Event B))) (least : Option ℕ) → option_copied first ≡ slice_get now 0 → is_some first ≡ false → IsLeastTime (initial ++ later) least
    → IsLeastTime (initial ++ (now ++ later)) least
least_where_none initial now later first least is some h = subst (λ l. IsLeastTime (initial ++ (l ++ later)) least) (sym (none_at_hand first now is some)) h

-- what is taken out where all is
pub all_taken : {B : Type 0} {none sent all : List (Event B)} (initial waiting : List (Event B)) → none ≡ [] → IsPermutation (none ++ waiting) sent → all ≡ sent ++ initial → IsPermutation (initial ++ waiting) all
all_taken {sent} initial waiting empty moved is =
    subst (IsPermutation (initial ++ waiting)) (sym is)
    (IsPermutation-trans (initial ++ waiting) (waiting ++ initial) (sent ++ initial) (IsPermutation-append_comm initial waiting)
    (IsPermutation-append_left initial waiting sent (subst (λ l. IsPermutation (l ++ waiting) sent) empty moved)))
