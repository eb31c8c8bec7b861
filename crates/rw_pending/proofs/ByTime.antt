-- Lists of events by the times that they have.
use Rattle.std.proofs.Common.{◌≡◌, ℕ, ◌<◌, ◌≤◌, Bool, true, false, cond, List, [], ◌∷◌, ◌++◌, ◌⊎◌, inl, inr, refl, sym, ◌∙◌, ap, subst, arith, append_assoc, append-nil, Option, Some, None, Bor, All, IfNone, IfSome, IsSome, IsPermutation, length, map, min, get_or}
use Rattle.std.specs.Prelude.{nat_le, ◌↔◌}
use Rattle.std.specs.BinaryHeap.{IsUpperBound}
use Rattle.std.specs.Cmp.{IsTotalOrder}
use Rattle.std.specs.List.{slice_get, slice_index_or}
use Rattle.std.specs.Option.{option_copied, option_map, option_to_list}
use Rattle.std.specs.Prelude.{Result, Ok, Err, OnErr}
use Rattle.std.specs.declared.cmp.Ordering.{Ordering}
use Rattle.std.specs.declared.cmp.Reverse.{Reverse}
use Rattle.std.proofs.lemmas.Bool.{cases_lt}
use Rattle.std.proofs.lemmas.Bool.Decides.{nat_tests}
use Rattle.std.proofs.lemmas.List.Elements.{All-append, All-cons, All-head, All-nil, All-push, All-tail, All-weaker}
use Rattle.std.proofs.lemmas.List.Sorted.{All-permutation, IsPermutation-append_comm, IsPermutation-append_left, IsPermutation-append_right, IsPermutation-middle, IsPermutation-push_more, IsPermutation-refl, IsPermutation-sym, IsPermutation-trans, length_permutation}
use Rattle.rw_vt.specs.declared.event.Event.{Event}
use Rattle.rw_vt.specs.Order.{AtMost, event_cmp}
use Rattle.rw_vt.proofs.EventOrder.{time_at_most}
use Rattle.rw_pending.proofs.Queue.{pushed, reversed, top_least}
use Rattle.rw_pending.specs.Later.{AreByTime, HasMoved, IsLane, IsLeastOr, IsLeastTime, IsLeft, earlier_of, or_else}
use Rattle.std.proofs.Math.Nat.{min-eq_left, min-eq_right, min-le_left}

-- Parts of lists

pub All-front : {E : Type 0} (P : E → Type 0) (xs ys : List E) → All P (xs ++ ys) → All P xs
All-front P [] ys h = All-nil P
All-front P (x ∷ xs) ys h = All-cons P x xs (All-head P x (xs ++ ys) h) (All-front P xs ys (All-tail P x (xs ++ ys) h))

pub All-back : {E : Type 0} (P : E → Type 0) (xs ys : List E) → All P (xs ++ ys) → All P ys
All-back P [] ys h = h
All-back P (x ∷ xs) ys h = All-back P xs ys (All-tail P x (xs ++ ys) h)

pub none_permuted : {E : Type 0} (xs ys : List E) → IsPermutation xs ys → xs ≡ [] → ys ≡ []
none_permuted xs [] moved none = refl
none_permuted xs (y ∷ ys) moved none = let long = length_permutation xs (y ∷ ys) moved in let short = ap length none in absurd (omega arith)

-- two pairs of lists, joined by places
pub joined_by_place : {E : Type 0} (a b c d : List E) → IsPermutation ((a ++ b) ++ (c ++ d)) ((a ++ c) ++ (b ++ d))
joined_by_place {E} a b c d =
    subst (λ l. IsPermutation l ((a ++ c) ++ (b ++ d))) (sym (append_assoc a b (c ++ d)))
    (subst (IsPermutation (a ++ (b ++ (c ++ d)))) (sym (append_assoc a c (b ++ d))) (IsPermutation-append_right a (b ++ (c ++ d)) (c ++ (b ++ d)) middle))
  where
    middle : IsPermutation (b ++ (c ++ d)) (c ++ (b ++ d))
    middle = subst (λ l. IsPermutation l (c ++ (b ++ d))) (append_assoc b c d) (subst (IsPermutation ((b ++ c) ++ d)) (append_assoc c b d) (IsPermutation-append_left d (b ++ c) (c ++ b) (IsPermutation-append_comm b c)))

-- what is gone of two lists, and what is left of them
gone_two : {E : Type 0} (xs us ys vs gone done : List E) → IsPermutation xs (gone ++ us) → IsPermutation ys (done ++ vs) → IsPermutation (xs ++ ys) ((gone ++ done) ++ (us ++ vs))
gone_two xs us ys vs gone done h k =
    IsPermutation-trans (xs ++ ys) ((gone ++ us) ++ (done ++ vs)) ((gone ++ done) ++ (us ++ vs))
    (IsPermutation-trans (xs ++ ys) ((gone ++ us) ++ ys) ((gone ++ us) ++ (done ++ vs)) (IsPermutation-append_left ys xs (gone ++ us) h) (IsPermutation-append_right (gone ++ us) ys (done ++ vs) k))
    (joined_by_place gone us done vs)

pub empty_parts : {E : Type 0} (xs ys : List E) → xs ++ ys ≡ [] → (xs ≡ []) × (ys ≡ [])
empty_parts [] ys h = (refl, h)
empty_parts (x ∷ xs) ys h = cc

-- what a queue has in front
pub front_first : {E : Type 0} (xs : List E) (front : Option (Bor E)) (n : ℕ) → n ≡ length xs → (IsSome front ↔ (0 < n)) → IfSome front (λ f. f.now ≡ slice_index_or xs 0 f.now) → option_copied front ≡ slice_get xs 0
front_first [] None n is some at = refl
front_first [] (Some f) n is some at = let there = some.0 refl in absurd (omega (arith, there, is))
front_first (x ∷ xs) None n is some at = let there = some.1 (omega (arith, is)) in cc
front_first (x ∷ xs) (Some f) n is some at = ap (λ e. Some e) at

-- Least times

module _ {B : Type 0} where
  At : ℕ → Event B → Type 0
  At t e = t ≤ e.time

  Past : ℕ → Event B → Type 0
  Past t e = t < e.time

  pub least_append : (xs ys : List (Event B)) (s t : Option ℕ) → IsLeastTime xs s → IsLeastTime ys t → IsLeastTime (xs ++ ys) (earlier_of s t)
  least_append xs ys None t h k = subst (λ l. IsLeastTime (l ++ ys) t) (sym h) k
  least_append xs ys (Some s) None h k = subst (λ l. IsLeastTime (xs ++ l) (Some s)) (sym k) (subst (λ l. IsLeastTime l (Some s)) (sym (append-nil xs)) h)
  least_append xs ys (Some s) (Some t) h k = go (nat_le s t) refl
    where
      go : (b : Bool) → nat_le s t ≡ b → IsLeastTime (xs ++ ys) (Some (cond b s t))
      go true is =
          let l : s ≤ t = grind (arith, nat_tests) in
          (All-append (λ e. s ≤ e.time) xs ys h.0 (All-weaker (λ e. t ≤ e.time) (λ e. s ≤ e.time) (λ e m. omega arith) ys k.0), λ all. h.1 (All-front (λ e. s < e.time) xs ys all))
      go false is =
          let l : t < s = grind (arith, nat_tests) in
          (All-append (λ e. t ≤ e.time) xs ys (All-weaker (λ e. s ≤ e.time) (λ e. t ≤ e.time) (λ e m. omega arith) xs h.0) k.0, λ all. k.1 (All-back (λ e. t < e.time) xs ys all))

  pub least_permuted : (xs ys : List (Event B)) (t : Option ℕ) → IsPermutation xs ys → IsLeastTime xs t → IsLeastTime ys t
  least_permuted xs ys None moved h = none_permuted xs ys moved h
  least_permuted xs ys (Some t) moved h = (All-permutation (λ e. t ≤ e.time) xs ys moved h.0, λ all. h.1 (All-permutation (λ e. t < e.time) ys xs (IsPermutation-sym xs ys moved) all))

  pub least_one : (e : Event B) → IsLeastTime (e ∷ []) (Some e.time)
  least_one e = (All-cons (λ f. e.time ≤ f.time) e [] (omega arith) (All-nil (λ f. e.time ≤ f.time)), λ all. let later = All-head (λ f. e.time < f.time) e [] all in absurd (omega arith))

  -- what no event is earlier than is at most the least time
  pub before_least : (xs : List (Event B)) (s t : ℕ) → All (λ e. s ≤ e.time) xs → IsLeastTime xs (Some t) → s ≤ t
  before_least xs s t h k = go (cases_lt t s)
    where
      go : (t < s) ⊎ (s ≤ t) → s ≤ t
      go (inl l) = absurd (k.1 (All-weaker (λ e. s ≤ e.time) (λ e. t < e.time) (λ e m. omega arith) xs h))
      go (inr l) = l

  -- where there is a least time, and it is before another, an event that comes before all is before that too

  -- By time

  pub first_by_time : (e : Event B) (es : List (Event B)) → AreByTime (e ∷ es) → IsLeastTime (e ∷ es) (Some e.time)
  first_by_time e es up = (All-cons (λ f. e.time ≤ f.time) e es (omega arith) up.0, λ all. let later = All-head (λ f. e.time < f.time) e es all in absurd (omega arith))

  pub by_time_rest : (gone left : List (Event B)) → AreByTime (gone ++ left) → AreByTime left
  by_time_rest [] left up = up
  by_time_rest (e ∷ gone) left up = by_time_rest gone left up.1

  pub by_time_push : (es : List (Event B)) (e : Event B) → AreByTime es → All (λ f. f.time ≤ e.time) es → AreByTime (es ++ e ∷ [])
  by_time_push [] e up within = (All-nil (λ f. e.time ≤ f.time), tt)
  by_time_push (d ∷ es) e up within = (All-push (λ f. d.time ≤ f.time) es e up.0 (All-head (λ f. f.time ≤ e.time) d es within), by_time_push es e up.1 (All-tail (λ f. f.time ≤ e.time) d es within))

  pub lane_rest : (before gone left : List (Event B)) (last : ℕ) → before ≡ gone ++ left → IsLane before last → IsLane left last
  lane_rest before gone left last is lane =
      let whole = subst (λ l. IsLane l last) is lane in
      record { by_time = by_time_rest gone left whole.by_time; within = All-back (λ e. e.time ≤ last) gone left whole.within }

  pub lane_push : (es : List (Event B)) (e : Event B) → All (λ f. f.time ≤ e.time) es → AreByTime es → IsLane (es ++ e ∷ []) e.time
  lane_push es e within up = record { by_time = by_time_push es e up within; within = All-push (λ f. f.time ≤ e.time) es e within (omega arith) }

  -- the first of a list by time is a least one
  pub taken_least : (xs us : List (Event B)) (next : Option (Event B)) → xs ≡ option_to_list next ++ us → AreByTime xs → IfSome next (λ e. All (λ f. e.time ≤ f.time) xs)
  taken_least xs us None is up = tt
  taken_least xs us (Some e) is up = subst (All (λ f. e.time ≤ f.time)) (sym is) (first_by_time e us (subst AreByTime is up)).0

  -- what leaves one store and what leaves the other
  pub moved_two : {t : ℕ} {xs us ys vs taken all whole : List (Event B)} → HasMoved t xs us taken all → HasMoved t ys vs all whole → HasMoved t (xs ++ ys) (us ++ vs) taken whole
  moved_two {t} {xs} {us} {ys} {vs} {taken} h k = record {
    moved = h.moved ++ k.moved;
    behind = k.behind ∙ ap (λ l. l ++ k.moved) h.behind ∙ append_assoc taken h.moved k.moved;
    parts = gone_two xs us ys vs h.moved k.moved h.parts k.parts;
    of_time = All-append (λ e. e.time ≡ t) h.moved k.moved h.of_time k.of_time;
    later = All-append (λ e. t < e.time) us vs h.later k.later;
  }

  pub left_two : {xs us ys vs : List (Event B)} → IsLeft xs us → IsLeft ys vs → IsLeft (xs ++ ys) (us ++ vs)
  left_two {xs} {us} {ys} {vs} h k = record { gone = h.gone ++ k.gone; parts = gone_two xs us ys vs h.gone k.gone h.parts k.parts }

  pub left_moved : {t : ℕ} {xs us taken all : List (Event B)} → HasMoved t xs us taken all → IsLeft xs us
  left_moved h = record { gone = h.moved; parts = h.parts }

  pub left_same : (xs : List (Event B)) → IsLeft xs xs
  left_same xs = record { gone = []; parts = IsPermutation-refl xs }

  pub left_on : {xs ys zs : List (Event B)} → IsLeft xs ys → IsLeft ys zs → IsLeft xs zs
  left_on {xs} {ys} {zs} h k = record {
    gone = h.gone ++ k.gone;
    parts = subst (IsPermutation xs) (sym (append_assoc h.gone k.gone zs)) (IsPermutation-trans xs (h.gone ++ ys) (h.gone ++ (k.gone ++ zs)) h.parts (IsPermutation-append_right h.gone ys (k.gone ++ zs) k.parts));
  }

  -- where the least time is another, all that is not earlier than a time is later
  pub all_later : (xs : List (Event B)) (least : Option ℕ) (t : ℕ) → IsLeastTime xs least → All (λ e. t ≤ e.time) xs → (least ≡ Some t → ⊥) → All (λ e. t < e.time) xs
  all_later xs None t h late other = subst (All (λ e. t < e.time)) (sym h) (All-nil (λ e. t < e.time))
  all_later xs (Some s) t h late other = go (cases_lt t s)
    where
      go : (t < s) ⊎ (s ≤ t) → All (λ e. t < e.time) xs
      go (inl l) = All-weaker (λ e. s ≤ e.time) (λ e. t < e.time) (λ e m. omega arith) xs h.0
      go (inr l) = let m = before_least xs t s late h in let same : s ≡ t = omega arith in absurd (other (ap (λ n. Some n) same))

  -- The least time, or a time that stands for none

  pub least_or_one : {never : ℕ} (e : Event B) → e.time ≤ never → IsLeastOr never (e ∷ []) e.time
  least_or_one e within = record { found = Some e.time; least = least_one e; value = refl; within = within }

  pub least_or_append : {never s t : ℕ} {xs ys : List (Event B)} → IsLeastOr never xs s → IsLeastOr never ys t → IsLeastOr never (xs ++ ys) (min s t)
  least_or_append {never} {s} {t} {xs} {ys} h k = record {
    found = earlier_of h.found k.found;
    least = least_append xs ys h.found k.found h.least k.least;
    value = go h.found k.found h.value k.value;
    within = omega (arith, min-le_left s t, h.within);
  }
    where
      by_test : (b : Bool) (i j : ℕ) → nat_le i j ≡ b → s ≡ i → t ≡ j → min s t ≡ cond b i j
      by_test true i j is si tj = let l : i ≤ j = grind (arith, nat_tests) in min-eq_left (omega (arith, l, si, tj)) ∙ si
      by_test false i j is si tj = let l : j < i = grind (arith, nat_tests) in min-eq_right (omega (arith, l, si, tj)) ∙ tj

      go : (a b : Option ℕ) → s ≡ or_else never a → t ≡ or_else never b → min s t ≡ or_else never (earlier_of a b)
      go None b is also = min-eq_right (omega (arith, is, k.within)) ∙ also
      go (Some i) None is also = min-eq_left (omega (arith, also, h.within)) ∙ is
      go (Some i) (Some j) is also = by_test (nat_le i j) i j refl is also

  pub least_or_three : {never s t u : ℕ} {xs ys zs : List (Event B)} → IsLeastOr never xs s → IsLeastOr never ys t → IsLeastOr never zs u → IsLeastOr never (xs ++ (ys ++ zs)) (min (min s t) u)
  least_or_three {never} {s} {t} {u} {xs} {ys} {zs} h k l = subst (λ es. IsLeastOr never es (min (min s t) u)) (append_assoc xs ys zs) (least_or_append (least_or_append h k) l)

  pub least_or_permuted : {never t : ℕ} {xs ys : List (Event B)} → IsPermutation xs ys → IsLeastOr never xs t → IsLeastOr never ys t
  least_or_permuted {xs} {ys} moved h = record { found = h.found; least = least_permuted xs ys h.found moved h.least; value = h.value; within = h.within }

  -- no event is earlier
  pub least_or_from : {never t : ℕ} (xs : List (Event B)) → IsLeastOr never xs t → All (λ e. t ≤ e.time) xs
  least_or_from {never} {t} xs h = go h.found h.least h.value
    where
      go : (found : Option ℕ) → IsLeastTime xs found → t ≡ or_else never found → All (λ e. t ≤ e.time) xs
      go None least is = subst (All (λ e. t ≤ e.time)) (sym least) (All-nil (λ e. t ≤ e.time))
      go (Some s) least is = subst (λ n. All (λ e. n ≤ e.time) xs) (sym is) least.0

  -- where that time is before another, so is a least event
  pub before_least_or : (order : B → B → Ordering) {never t until : ℕ} (xs : List (Event B)) → IsLeastOr never xs t → t < until → until ≤ never
      → (next : Option (Event B)) → IfSome next (λ e. All (AtMost (event_cmp order) e) xs) → IfSome next (λ e. e.time < until)
  before_least_or order {never} {t} {until} xs least early within None h = tt
  before_least_or order {never} {t} {until} xs least early within (Some e) h = go least.found least.least least.value
    where
      go : (found : Option ℕ) → IsLeastTime xs found → t ≡ or_else never found → e.time < until
      go None least is = absurd (omega (arith, is, early, within))
      go (Some s) least is =
          let l = before_least xs e.time s (All-weaker (AtMost (event_cmp order) e) (λ f. e.time ≤ f.time) (λ f m. time_at_most order e f m) xs h) least in
          omega (arith, l, is, early)

  -- where all are later, there are none
  pub least_or_past : {never t : ℕ} (xs : List (Event B)) → IsLeastOr never xs t → All (λ e. t < e.time) xs → xs ≡ []
  least_or_past {never} {t} xs h past = go h.found h.least h.value
    where
      go : (found : Option ℕ) → IsLeastTime xs found → t ≡ or_else never found → xs ≡ []
      go None least is = least
      go (Some s) least is = absurd (least.1 (subst (λ n. All (λ e. n < e.time) xs) is past))

  -- where it is another time, all that is not earlier than a time is later
  pub least_or_other : {never s : ℕ} (xs : List (Event B)) (t : ℕ) → IsLeastOr never xs s → All (λ e. t ≤ e.time) xs → (s ≡ t → ⊥) → All (λ e. t < e.time) xs
  least_or_other {never} {s} xs t h late other = all_later xs h.found t h.least late (λ is. other (h.value ∙ ap (λ o. or_else never o) is))

  -- a time that an event has and none is before is the least
  pub least_here : {never : ℕ} (xs : List (Event B)) (t k : ℕ) (e : Event B) → k < length xs → e ≡ get_or xs k e → e.time ≡ t → All (λ f. t ≤ f.time) xs → t ≤ never → IsLeastOr never xs t
  least_here {never} xs t k e l is at late within = record {
    found = Some t;
    least = (late, λ all. let past = all k e l in let same = ap (λ f. f.time) is in absurd (omega (arith, past, same, at)));
    value = refl;
    within = within;
  }

  -- there is something where there is a least time
  pub some_least : (xs : List (Event B)) (t : ℕ) → IsLeastTime xs (Some t) → xs ≡ [] → ⊥
  some_least xs t h none = h.1 (subst (All (λ e. t < e.time)) (sym none) (All-nil (λ e. t < e.time)))

  -- so what is taken of it is not none
  pub one_there : (P : Type 0) (t : ℕ) (xs : List (Event B)) (next : Option (Event B)) → IsLeastTime xs (Some t) → IfNone next (xs ≡ []) → IfNone next P
  one_there P t xs None least none = absurd (some_least xs t least none)
  one_there P t xs (Some e) least none = tt

  -- the least time of a list by time is that of its first
  pub first_least : (xs : List (Event B)) → AreByTime xs → IsLeastTime xs (option_map (λ e. e.time) (slice_get xs 0))
  first_least [] up = refl
  first_least (e ∷ es) up = first_by_time e es up

  -- so is the time of what is in front, or else the time that stands for none
  pub front_least : (never t : ℕ) (xs : List (Event B)) (front : Option (Bor (Event B))) → AreByTime xs → option_copied front ≡ slice_get xs 0
      → t ≡ or_else never (option_map (λ e. e.time) (option_copied front)) → t ≤ never → IsLeastOr never xs t
  front_least never t xs front up is value within = record {
    found = option_map (λ e. e.time) (option_copied front);
    least = subst (IsLeastTime xs) (ap (option_map (λ e. e.time)) (sym is)) (first_least xs up);
    value = value;
    within = within;
  }

  -- a least event has the least time
  pub at_least : (t : ℕ) (xs rest : List (Event B)) (x : Event B) → All (λ e. t ≤ e.time) xs → IsLeastTime xs (Some t) → IsPermutation xs (x ∷ rest) → All (λ e. x.time ≤ e.time) xs → x.time ≡ t
  at_least t xs rest x late least parts first =
      let low = before_least xs x.time t first least in
      let high = All-head (λ e. t ≤ e.time) x rest (All-permutation (λ e. t ≤ e.time) xs (x ∷ rest) parts late) in
      omega arith

  -- what is left of a list is not earlier than the list
  pub late_left : (P : Event B → Type 0) (before gone left : List (Event B)) → IsPermutation before (gone ++ left) → All P before → All P left
  late_left P before gone left parts late = All-back P gone left (All-permutation P before (gone ++ left) parts late)

-- a heap with the least on top
pub least_on_top : {B : Type 0} (order : B → B → Ordering) → IsTotalOrder (event_cmp order) → (t : Reverse (Event B)) (ts : List (Reverse (Event B))) → t ≡ get_or ts 0 t → 0 < length ts
    → IsUpperBound (λ a b. event_cmp order b.0 a.0) t ts → IsLeastTime (map (λ r. r.0) ts) (Some t.0.time)
least_on_top order o t [] is there bound = absurd (omega arith)
least_on_top order o t (u ∷ us) is there bound = (
  All-weaker (AtMost (event_cmp order) t.0) (λ f. t.0.time ≤ f.time) (λ f. time_at_most order t.0 f) (map (λ r. r.0) (u ∷ us)) (top_least o t (u ∷ us) bound),
  λ all. let later = All-head (λ f. t.0.time < f.time) u.0 (map (λ r. r.0) us) all in let same = ap (λ r. r.0.time) is in absurd (omega arith),
)

pub pushed_one : {E : Type 0} (e : E) (ts us : List (Reverse E)) → IsPermutation (reversed e ∷ ts) us → IsPermutation (map (λ r. r.0) ts ++ e ∷ []) (map (λ r. r.0) us)
pushed_one e ts us h = pushed [] (e ∷ []) ts us (IsPermutation-push_more ts ts us (reversed e) (IsPermutation-refl ts) h)

-- an event is put before the others of a store, or among them
pub put_before : {E : Type 0} (xs us ys : List E) (e : E) → us ≡ xs ++ e ∷ [] → IsPermutation ((xs ++ ys) ++ e ∷ []) (us ++ ys)
put_before xs us ys e is =
    subst (λ l. IsPermutation ((xs ++ ys) ++ e ∷ []) (l ++ ys)) (sym is)
    (subst (λ l. IsPermutation l ((xs ++ e ∷ []) ++ ys)) (sym (append_assoc xs ys (e ∷ [])))
    (subst (IsPermutation (xs ++ (ys ++ e ∷ []))) (sym (append_assoc xs (e ∷ []) ys)) (IsPermutation-append_right xs (ys ++ e ∷ []) (e ∷ ys) (IsPermutation-append_comm ys (e ∷ [])))))

pub put_behind : {E : Type 0} (xs ys vs : List E) (e : E) → IsPermutation (ys ++ e ∷ []) vs → IsPermutation ((xs ++ ys) ++ e ∷ []) (xs ++ vs)
put_behind xs ys vs e h = subst (λ l. IsPermutation l (xs ++ vs)) (sym (append_assoc xs ys (e ∷ []))) (IsPermutation-append_right xs (ys ++ e ∷ []) vs h)

pub on_err : {T E P : Type 0} (r : Result T E) → P → OnErr r P
on_err (Ok x) h = tt
on_err (Err y) h = h

-- one is taken from the front
pub taken_first : {E : Type 0} (xs us : List E) (next : Option E) → xs ≡ option_to_list next ++ us → IfSome next (λ e. IsPermutation xs (e ∷ us))
taken_first xs us None is = tt
taken_first xs us (Some e) is = subst (λ l. IsPermutation l (e ∷ us)) (sym is) (IsPermutation-refl (e ∷ us))

-- one is taken of those before others, where there is one
pub taken_before : {E : Type 0} (xs us ys : List E) (next : Option E) → IfSome next (λ e. IsPermutation xs (e ∷ us)) → IfSome next (λ e. IsPermutation (xs ++ ys) (e ∷ (us ++ ys)))
taken_before xs us ys None h = tt
taken_before xs us ys (Some e) h = IsPermutation-append_left ys xs (e ∷ us) h

-- one is taken of those behind others, where there is one
pub taken_behind : {E : Type 0} (xs ys vs : List E) (next : Option E) → IfSome next (λ e. IsPermutation ys (e ∷ vs)) → IfSome next (λ e. IsPermutation (xs ++ ys) (e ∷ (xs ++ vs)))
taken_behind xs ys vs None h = tt
taken_behind xs ys vs (Some e) h = IsPermutation-trans (xs ++ ys) (xs ++ e ∷ vs) (e ∷ (xs ++ vs)) (IsPermutation-append_right xs ys (e ∷ vs) h) (IsPermutation-middle xs e vs)

pub none_behind : {E : Type 0} (P : E → Type 0) (xs ys : List E) (next : Option E) → All P xs → IfNone next (All P ys) → IfNone next (All P (xs ++ ys))
none_behind P xs ys None h k = All-append P xs ys h k
none_behind P xs ys (Some e) h k = tt

pub same_behind : {E : Type 0} (xs ys vs : List E) (next : Option E) → IfNone next (IsPermutation ys vs) → IfNone next (IsPermutation (xs ++ ys) (xs ++ vs))
same_behind xs ys vs None h = IsPermutation-append_right xs ys vs h
same_behind xs ys vs (Some e) h = tt

-- a least event that is taken has the least time
pub taken_at_least : {B : Type 0} (t : ℕ) (xs rest : List (Event B)) (next : Option (Event B)) → All (λ e. t ≤ e.time) xs → IsLeastTime xs (Some t) → IfSome next (λ e. IsPermutation xs (e ∷ rest)) → IfSome next (λ e. All (λ f. e.time ≤ f.time) xs)
    → IfSome next (λ e. e.time ≡ t)
taken_at_least t xs rest None late least parts first = tt
taken_at_least t xs rest (Some e) late least parts first = at_least t xs rest e late least parts first
