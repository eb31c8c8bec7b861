-- What waits to be executed: the initial events, those at hand, and those that were sent for later times.
use Rattle.std.proofs.Common.{◌≡◌, ℕ, ◌<◌, ◌≤◌, Bool, false, List, [], ◌∷◌, ◌++◌, refl, sym, ◌∙◌, ap, subst, arith, append_assoc, append-nil, true≢false, Option, Some, None, Bor, All, IfNone, IfSome, IsNone, IsSome, IsTrue, IsPermutation, take}
use Rattle.std.specs.Prelude.{Result, Ok, Err, OnOk, OnErr}
use Rattle.std.specs.Cmp.{IsTotalOrder, nat_cmp_is}
use Rattle.std.specs.List.{slice_get}
use Rattle.std.specs.Option.{is_some, option_copied, option_map, option_to_list}
use Rattle.std.specs.Ordering.{is_gt, nat_cmp, ordering_then}
use Rattle.std.specs.declared.cmp.Ordering.{Ordering}
use Rattle.std.specs.declared.cmp.Ordering.TheVariants.{Less}
use Rattle.std.proofs.lemmas.Cmp.{upto}
use Rattle.std.proofs.lemmas.List.Elements.{All-append, All-cons, All-head, All-nil, All-push, All-take, All-weaker}
use Rattle.std.proofs.lemmas.List.Sorted.{All-permutation, IsPermutation-append_left, IsPermutation-append_right, IsPermutation-refl, IsPermutation-sym, IsPermutation-trans}
use Rattle.rw_vt.specs.declared.event.Event.{Event}
use Rattle.rw_vt.specs.Order.{AtMost, event_cmp}
use Rattle.rw_vt.proofs.EventOrder.{time_at_most}
use Rattle.rw_pending.specs.Later.{HasMoved, IsLeastOr, IsLeastTime, IsLeft, or_else}
use Rattle.rw_pending.specs.Pending.{AreAround, IsDue, IsTakenFromOne, time_or}
use Rattle.rw_pending.proofs.ByTime.{All-back, All-front, joined_by_place, late_left, least_or_from, least_or_past, none_permuted, put_before, put_behind}

-- First elements

pub no_first : {E : Type 0} (first : Option (Bor E)) (xs : List E) → option_copied first ≡ slice_get xs 0 → is_some first ≡ false → xs ≡ []
no_first None [] is off = refl
no_first None (y ∷ ys) is off = cc
no_first (Some f) xs is off = absurd (true≢false off)

not_both : (b : Bool) → b ≡ false → IsTrue b → ⊥
not_both b off on = true≢false (sym on ∙ off)

pub exchanged : {A B : Type 0} (P : A → B → Type 0) (a : Option A) (b : Option B) → IfSome a (λ x. IfSome b (λ y. P x y)) → IfSome b (λ y. IfSome a (λ x. P x y))
exchanged P None None h = tt
exchanged P None (Some y) h = tt
exchanged P (Some x) None h = tt
exchanged P (Some x) (Some y) h = h

pub held : {A B : Type 0} (Q : Type 0) (P : A → B → Type 0) (a : Option A) (b : Option B) → Q → IfSome a (λ x. IfSome b (λ y. Q → P x y)) → IfSome a (λ x. IfSome b (λ y. P x y))
held Q P None b q h = tt
held Q P (Some x) None q h = tt
held Q P (Some x) (Some y) q h = h q

-- where nothing is taken there is nothing
pub nothing_there : {E : Type 0} (next : Option E) (xs ys : List E) (first second : Option (Bor E)) (b : Bool) → IfNone next (ys ≡ []) → option_copied first ≡ slice_get xs 0 → option_copied second ≡ slice_get ys 0
    → b ≡ false → (IsNone second → IsSome first → IsTrue b) → IfNone next ((xs ≡ []) × (ys ≡ []))
nothing_there (Some e) xs ys first second b empty is also off only = tt
nothing_there None xs ys first (Some f) b empty is also off only = let gone : Some f.now ≡ None = also ∙ ap (λ l. slice_get l 0) empty in absurd cc
nothing_there None xs ys (Some f) None b empty is also off only = absurd (not_both b off (only refl refl))
nothing_there None [] ys None None b empty is also off only = (refl, empty)
nothing_there None (x ∷ xs) ys None None b empty is also off only = cc

module _ {E : Type 0} {cmp : E → E → Ordering} (o : IsTotalOrder cmp) where
  below_all : (x y : E) (xs : List E) → AtMost cmp x y → All (AtMost cmp y) xs → All (AtMost cmp x) xs
  below_all x y xs h all = All-weaker (AtMost cmp y) (AtMost cmp x) (λ z k. upto o x y z h k) xs all

  pub below_first : (x : E) (ys : List E) (second : Option (Bor E)) → option_copied second ≡ slice_get ys 0 → IfSome second (λ s. All (AtMost cmp s.now) ys) → IfSome second (λ s. AtMost cmp x s.now) → All (AtMost cmp x) ys
  below_first x [] second is least low = All-nil (AtMost cmp x)
  below_first x (y ∷ ys) None is least low = cc
  below_first x (y ∷ ys) (Some s) is least low = below_all x s.now (y ∷ ys) low least

  -- what stands first in a list, and is at most what stands first in another, is at most all of both
  pub least_of_both : (next : Option E) (xs us ys : List E) (first second : Option (Bor E)) → xs ≡ option_to_list next ++ us → option_copied first ≡ slice_get xs 0 → IfSome first (λ f. All (AtMost cmp f.now) xs)
      → option_copied second ≡ slice_get ys 0 → IfSome second (λ s. All (AtMost cmp s.now) ys) → IfSome first (λ f. IfSome second (λ s. AtMost cmp f.now s.now))
      → IfSome next (λ e. All (AtMost cmp e) xs × All (AtMost cmp e) ys)
  least_of_both None xs us ys first second taken is least also too lower = tt
  least_of_both (Some e) [] us ys first second taken is least also too lower = cc
  least_of_both (Some e) (x ∷ xs) us ys None second taken is least also too lower = cc
  least_of_both (Some e) (x ∷ xs) us ys (Some f) second taken is least also too lower =
      let same : f.now ≡ e = cc in
      (subst (λ w. All (AtMost cmp w) (x ∷ xs)) same least, below_first e ys second also too (subst (λ w. IfSome second (λ s. AtMost cmp w s.now)) same lower))

-- Times

module _ {B : Type 0} (order : B → B → Ordering) where
  -- an earlier event is at most the other
  sooner : (e f : Event B) → e.time < f.time → AtMost (event_cmp order) e f
  sooner e f l =
      ap (λ r. is_gt (ordering_then r (ordering_then (nat_cmp e.source f.source) (ordering_then (nat_cmp e.number f.number) (ordering_then (nat_cmp e.to f.to) (order e.body f.body))))))
      (sym (nat_cmp_is e.time f.time Less l))

  -- where the first initial event's time is before the least time of those that were sent, it comes before all of these
  pub due_before : {never s t : ℕ} (xs ys : List (Event B)) → s ≡ or_else never (option_map (λ e. e.time) (slice_get xs 0)) → IsLeastOr never ys t → s < t → IsDue xs ys
  due_before [] ys is least early = absurd (omega (arith, is, least.within, early))
  due_before {never} {s} {t} (x ∷ xs) ys is least early = All-weaker (λ e. t ≤ e.time) (λ e. x.time < e.time) (λ e m. omega (arith, is, early, m)) ys (least_or_from ys least)

  due_nothing : (xs ys : List (Event B)) → ys ≡ [] → IsDue xs ys
  due_nothing [] ys none = none
  due_nothing (x ∷ xs) ys none = subst (All (λ e. x.time < e.time)) (sym none) (All-nil (λ e. x.time < e.time))

  -- and where none of them has that least time, there are none
  pub due_none : {never t : ℕ} (xs ys left : List (Event B)) (next : Option (Event B)) → IsLeastOr never ys t → IfNone next (All (λ e. t < e.time) ys) → IfNone next (IsPermutation ys left) → IfNone next ((left ≡ ys) × IsDue xs ys)
  due_none xs ys left (Some e) least past same = tt
  due_none xs ys left None least past same = let none = least_or_past ys least past in (none_permuted ys left same none ∙ sym none, due_nothing xs ys none)

  pub due_none_ok : {T E : Type 0} {never t : ℕ} (r : Result T E) (xs ys left : List (Event B)) (next : Option (Event B)) → IsLeastOr never ys t → OnOk r (IfNone next (All (λ e. t < e.time) ys)) → OnOk r (IfNone next (IsPermutation ys left))
      → OnOk r (IfNone next ((left ≡ ys) × IsDue xs ys))
  due_none_ok (Ok x) xs ys left next least past same = due_none xs ys left next least past same
  due_none_ok (Err x) xs ys left next least past same = tt

  -- what is taken is not before the time that is reached
  taken_from : (t : ℕ) (xs ys us vs : List (Event B)) (e : Event B) → All (λ f. t ≤ f.time) xs → All (λ f. t ≤ f.time) ys → IsTakenFromOne xs ys (Some e) us vs → t ≤ e.time
  taken_from t xs ys us vs e from also taken =
      All-head (λ f. t ≤ f.time) e []
      (subst (All (λ f. t ≤ f.time)) taken.both
      (All-append (λ f. t ≤ f.time) taken.from_first taken.from_second
      (All-front (λ f. t ≤ f.time) taken.from_first us (subst (All (λ f. t ≤ f.time)) taken.first from))
      (All-front (λ f. t ≤ f.time) taken.from_second vs (subst (All (λ f. t ≤ f.time)) taken.second also))))

  pub no_back : {E : Type 0} (xs ys : List E) → xs ++ ys ≡ [] → (xs ≡ []) × (ys ≡ [])
  no_back [] ys h = (refl, h)
  no_back (x ∷ xs) ys h = cc

  first_taken : (x e : Event B) (xs us a : List (Event B)) → x ∷ xs ≡ a ++ us → a ≡ e ∷ [] → x ≡ e
  first_taken x e xs us [] is one = cc
  first_taken x e xs us (y ∷ a) is one = cc

  -- what is around the time that is reached, once the least event is taken
  pub around_after : (t : ℕ) (xs ys later us vs : List (Event B)) (next : Option (Event B)) → AreAround t xs ys later → (ys ≡ [] → IsDue xs later) → IsTakenFromOne xs ys next us vs
      → IfSome next (λ e. All (AtMost (event_cmp order) e) xs × All (AtMost (event_cmp order) e) ys) → AreAround (time_or next t) us vs later
  around_after t xs ys later us vs None around due taken least = record {
    initial_from = All-back (λ f. t ≤ f.time) taken.from_first us (subst (All (λ f. t ≤ f.time)) taken.first around.initial_from);
    now_at = All-back (λ f. f.time ≡ t) taken.from_second vs (subst (All (λ f. f.time ≡ t)) taken.second around.now_at);
    later_past = around.later_past;
  }
  around_after t xs ys later us vs (Some e) around due taken least =
      let rest = rest_after ys refl in
      record { initial_from = from; now_at = rest.0; later_past = rest.1 }
    where
      reached : t ≤ e.time
      reached = taken_from t xs ys us vs e around.initial_from (All-weaker (λ f. f.time ≡ t) (λ f. t ≤ f.time) (λ f m. omega arith) ys around.now_at) taken

      from : All (λ f. e.time ≤ f.time) us
      from = All-weaker (AtMost (event_cmp order) e) (λ f. e.time ≤ f.time) (λ f m. time_at_most order e f m) us (All-back (AtMost (event_cmp order) e) taken.from_first us (subst (All (AtMost (event_cmp order) e)) taken.first least.0))

      alone : ys ≡ [] → (zs : List (Event B)) → xs ≡ zs → IsDue zs later → All (λ f. e.time < f.time) later
      alone none [] is h =
          let a = no_back taken.from_first us (sym taken.first ∙ is) in
          let b = no_back taken.from_second vs (sym taken.second ∙ none) in
          let both : [] ++ [] ≡ e ∷ [] = subst (λ l. l ++ [] ≡ e ∷ []) a.0 (subst (λ l. taken.from_first ++ l ≡ e ∷ []) b.0 taken.both) in
          absurd cc
      alone none (z ∷ zs) is h =
          let b = no_back taken.from_second vs (sym taken.second ∙ none) in
          let one : taken.from_first ≡ e ∷ [] = sym (append-nil taken.from_first) ∙ subst (λ l. taken.from_first ++ l ≡ e ∷ []) b.0 taken.both in
          let same = first_taken z e zs us taken.from_first (sym is ∙ taken.first) one in
          subst (λ w. All (λ f. w.time < f.time) later) same h

      rest_after : (zs : List (Event B)) → ys ≡ zs → All (λ f. f.time ≡ e.time) vs × All (λ f. e.time < f.time) later
      rest_after [] is =
          let b = no_back taken.from_second vs (sym taken.second ∙ is) in
          (subst (All (λ f. f.time ≡ e.time)) (sym b.1) (All-nil (λ f. f.time ≡ e.time)), alone is xs refl (due is))
      rest_after (z ∷ zs) is =
          let at = All-head (λ f. f.time ≡ t) z zs (subst (All (λ f. f.time ≡ t)) is around.now_at) in
          let low = time_at_most order e z (All-head (AtMost (event_cmp order) e) z zs (subst (All (AtMost (event_cmp order) e)) is least.1)) in
          let same : e.time ≡ t = omega (arith, reached, at, low) in
          let mine = All-back (λ f. f.time ≡ t) taken.from_second vs (subst (All (λ f. f.time ≡ t)) taken.second around.now_at) in
          (All-weaker (λ f. f.time ≡ t) (λ f. f.time ≡ e.time) (λ f m. omega arith) vs mine, All-weaker (λ f. t < f.time) (λ f. e.time < f.time) (λ f m. omega arith) later around.later_past)

  pub nothing_waits : (xs ys later vs left : List (Event B)) (next : Option (Event B)) → IfNone next ((xs ≡ []) × (vs ≡ [])) → (vs ≡ [] → IsDue xs left) → IsPermutation (ys ++ later) (vs ++ left) → IfNone next (xs ++ (ys ++ later) ≡ [])
  nothing_waits xs ys later vs left (Some e) none due moved = tt
  nothing_waits xs ys later vs left None none due moved =
      let gone : left ≡ [] = subst (λ l. IsDue l left) none.0 (due none.1) in
      let empty : vs ++ left ≡ [] = ap (λ l. l ++ left) none.1 ∙ gone in
      ap (λ l. l ++ (ys ++ later)) none.0 ∙ none_permuted (vs ++ left) (ys ++ later) (IsPermutation-sym (ys ++ later) (vs ++ left) moved) empty

  pub least_of_all : (t : ℕ) (xs ys later us vs ws left : List (Event B)) (next : Option (Event B)) → IfSome next (λ e. All (AtMost (event_cmp order) e) xs × All (AtMost (event_cmp order) e) vs) → AreAround (time_or next t) us ws left
      → IsPermutation (ys ++ later) (vs ++ left) → IfSome next (λ e. All (AtMost (event_cmp order) e) (xs ++ (ys ++ later)))
  least_of_all t xs ys later us vs ws left None least around moved = tt
  least_of_all t xs ys later us vs ws left (Some e) least around moved =
      All-append (AtMost (event_cmp order) e) xs (ys ++ later) least.0
      (All-permutation (AtMost (event_cmp order) e) (vs ++ left) (ys ++ later) (IsPermutation-sym (ys ++ later) (vs ++ left) moved)
      (All-append (AtMost (event_cmp order) e) vs left least.1 (All-weaker (λ f. e.time < f.time) (AtMost (event_cmp order) e) (λ f l. sooner e f l) left around.later_past)))

  pub taken_from_all : (xs ys later us vs ws left : List (Event B)) (next : Option (Event B)) → IsPermutation (ys ++ later) (vs ++ left) → IsTakenFromOne xs vs next us ws → IfSome next (λ e. IsPermutation (xs ++ (ys ++ later)) (e ∷ (us ++ (ws ++ left))))
  taken_from_all xs ys later us vs ws left None moved taken = tt
  taken_from_all xs ys later us vs ws left (Some e) moved taken =
      IsPermutation-trans (xs ++ (ys ++ later)) (xs ++ (vs ++ left)) (e ∷ (us ++ (ws ++ left)))
      (IsPermutation-append_right xs (ys ++ later) (vs ++ left) moved)
      (subst (λ l. IsPermutation (l ++ (vs ++ left)) (e ∷ (us ++ (ws ++ left)))) (sym taken.first)
      (subst (λ l. IsPermutation ((taken.from_first ++ us) ++ (l ++ left)) (e ∷ (us ++ (ws ++ left)))) (sym taken.second)
      (subst (λ l. IsPermutation ((taken.from_first ++ us) ++ l) (e ∷ (us ++ (ws ++ left)))) (sym (append_assoc taken.from_second ws left))
      (subst (λ l. IsPermutation ((taken.from_first ++ us) ++ (taken.from_second ++ (ws ++ left))) (l ++ (us ++ (ws ++ left)))) taken.both
      (joined_by_place taken.from_first us taken.from_second (ws ++ left))))))

-- The next time's events move to those at hand

module _ {B : Type 0} {t : ℕ} {later left room all now : List (Event B)} (h : HasMoved t later left room all) (clear : room ≡ []) (filled : IsPermutation all now) where
  moved_now : IsPermutation h.moved now
  moved_now = subst (λ l. IsPermutation l now) (h.behind ∙ ap (λ l. l ++ h.moved) clear) filled

  pub some_moved : IsLeastTime later (Some t) → now ≡ [] → ⊥
  some_moved least none =
      let empty = none_permuted now h.moved (IsPermutation-sym h.moved now moved_now) none in
      least.1 (All-permutation (λ e. t < e.time) left later (IsPermutation-sym later left (subst (λ l. IsPermutation later (l ++ left)) empty h.parts)) h.later)

-- What is lost or added

pub around_left : {B : Type 0} (t : ℕ) (xs ys later left : List (Event B)) → AreAround t xs ys later → IsLeft later left → AreAround t xs ys left
around_left t xs ys later left around h = record { initial_from = around.initial_from; now_at = around.now_at; later_past = late_left (λ e. t < e.time) later h.gone left h.parts around.later_past }

pub around_lost : {B : Type 0} (t : ℕ) (xs ys vs later left : List (Event B)) → AreAround t xs ys later → (gone : List (Event B)) × (ys ≡ gone ++ vs) → IsLeft later left → AreAround t xs vs left
around_lost t xs ys vs later left around lost h = record {
  initial_from = around.initial_from;
  now_at = All-back (λ e. e.time ≡ t) lost.0 vs (subst (All (λ e. e.time ≡ t)) lost.1 around.now_at);
  later_past = late_left (λ e. t < e.time) later h.gone left h.parts around.later_past;
}

pub around_added : {B T E : Type 0} (t : ℕ) (xs ys later sent new : List (Event B)) (r : Result T E) → AreAround t xs ys later → All (λ e. t < e.time) sent → OnOk r (IsPermutation (later ++ sent) new) → OnErr r ((n : ℕ) × IsPermutation (later ++ take n sent) new) → AreAround t xs ys new
around_added t xs ys later sent new (Ok x) around past added some = record {
  initial_from = around.initial_from;
  now_at = around.now_at;
  later_past = All-permutation (λ e. t < e.time) (later ++ sent) new added (All-append (λ e. t < e.time) later sent around.later_past past);
}
around_added t xs ys later sent new (Err x) around past added some = record {
  initial_from = around.initial_from;
  now_at = around.now_at;
  later_past = All-permutation (λ e. t < e.time) (later ++ take some.0 sent) new some.1 (All-append (λ e. t < e.time) later (take some.0 sent) around.later_past (All-take (λ e. t < e.time) some.0 sent past));
}

pub around_put : {B T E : Type 0} (t : ℕ) (xs ys later : List (Event B)) (e : Event B) (new : List (Event B)) (r : Result T E) → AreAround t xs ys later → t < e.time
    → OnOk r (IsPermutation (later ++ e ∷ []) new) → OnErr r (new ≡ later) → AreAround t xs ys new
around_put t xs ys later e new (Ok x) around past added same = record {
  initial_from = around.initial_from;
  now_at = around.now_at;
  later_past = All-permutation (λ e. t < e.time) (later ++ e ∷ []) new added
      (All-append (λ e. t < e.time) later (e ∷ []) around.later_past (All-cons (λ e. t < e.time) e [] past (All-nil (λ e. t < e.time))));
}
around_put t xs ys later e new (Err x) around past added same = subst (AreAround t xs ys) (sym same) around

pub added_to_all : {E : Type 0} (xs ys later sent new : List E) → IsPermutation (later ++ sent) new → IsPermutation ((xs ++ (ys ++ later)) ++ sent) (xs ++ (ys ++ new))
added_to_all xs ys later sent new h =
    subst (λ l. IsPermutation l (xs ++ (ys ++ new))) (sym (append_assoc xs (ys ++ later) sent))
    (IsPermutation-append_right xs ((ys ++ later) ++ sent) (ys ++ new)
    (subst (λ l. IsPermutation l (ys ++ new)) (sym (append_assoc ys later sent)) (IsPermutation-append_right ys (later ++ sent) new h)))

-- Events of time 0, and later ones

module _ {B : Type 0} where
  abbrev pub AreApart : List (Event B) → List (Event B) → List (Event B) → Type 0
  AreApart es start later = IsPermutation es (start ++ later) × All (λ e. e.time ≡ 0) start × All (λ e. 0 < e.time) later

  pub apart_at_first : {start later : List (Event B)} → start ≡ [] → later ≡ [] → AreApart [] start later
  apart_at_first none empty = rw (none, empty) (IsPermutation-refl [], All-nil (λ e. e.time ≡ 0), All-nil (λ e. 0 < e.time))

  pub put_at_start : (es all start front later back : List (Event B)) (e : Event B) → all ≡ es ++ e ∷ [] → e.time ≡ 0 → front ≡ start ++ e ∷ [] → back ≡ later → AreApart es start later → AreApart all front back
  put_at_start es all start front later back e more at is same apart = (
    subst (λ l. IsPermutation l (front ++ back)) (sym more) (subst (λ l. IsPermutation (es ++ e ∷ []) (front ++ l)) (sym same)
        (IsPermutation-trans (es ++ e ∷ []) ((start ++ later) ++ e ∷ []) (front ++ later) (IsPermutation-append_left (e ∷ []) es (start ++ later) apart.0) (put_before start front later e is))),
    subst (All (λ f. f.time ≡ 0)) (sym is) (All-push (λ f. f.time ≡ 0) start e apart.1 at),
    subst (All (λ f. 0 < f.time)) (sym same) apart.2,
  )

  pub put_later : (es all start front later back : List (Event B)) (e : Event B) → all ≡ es ++ e ∷ [] → 0 < e.time → front ≡ start → IsPermutation (later ++ e ∷ []) back → AreApart es start later → AreApart all front back
  put_later es all start front later back e more past same put apart = (
    subst (λ l. IsPermutation l (front ++ back)) (sym more) (subst (λ l. IsPermutation (es ++ e ∷ []) (l ++ back)) (sym same)
        (IsPermutation-trans (es ++ e ∷ []) ((start ++ later) ++ e ∷ []) (start ++ back) (IsPermutation-append_left (e ∷ []) es (start ++ later) apart.0) (put_behind start later back e put))),
    subst (All (λ f. f.time ≡ 0)) (sym same) apart.1,
    All-permutation (λ f. 0 < f.time) (later ++ e ∷ []) back put (All-push (λ f. 0 < f.time) later e apart.2 past),
  )

  -- those of time 0 come to hand
  around_start : (xs start now later : List (Event B)) → All (λ e. e.time ≡ 0) start → All (λ e. 0 < e.time) later → IsPermutation start now → AreAround 0 xs now later
  around_start xs start now later at past moved = record { initial_from = λ k d l. omega arith; now_at = All-permutation (λ e. e.time ≡ 0) start now moved at; later_past = past }

  pub around_filled : {T E : Type 0} (xs start now later : List (Event B)) (r : Result T E) → All (λ e. e.time ≡ 0) start → All (λ e. 0 < e.time) later → OnOk r (IsPermutation start now) → OnErr r (now ≡ []) → AreAround 0 xs now later
  around_filled xs start now later (Ok x) at past filled none = around_start xs start now later at past filled
  around_filled xs start now later (Err x) at past filled none = record { initial_from = λ k d l. omega arith; now_at = subst (All (λ e. e.time ≡ 0)) (sym none) (All-nil (λ e. e.time ≡ 0)); later_past = past }

  -- of what was sent nothing is left, and time 0 is reached again
  pub around_none : (xs now later : List (Event B)) → now ≡ [] → later ≡ [] → AreAround 0 xs now later
  around_none xs now later no_now no_later = record {
    initial_from = λ k d l. omega arith;
    now_at = subst (All (λ e. e.time ≡ 0)) (sym no_now) (All-nil (λ e. e.time ≡ 0));
    later_past = subst (All (λ e. 0 < e.time)) (sym no_later) (All-nil (λ e. 0 < e.time));
  }

-- What is taken where a time is due

module _ {B : Type 0} where
  pub taken_due : (t : ℕ) (xs ys : List (Event B)) (next : Option (Event B)) → IfSome next (λ e. e.time ≡ t) → All (λ f. t ≤ f.time) xs → All (λ f. t ≤ f.time) ys
      → IfSome next (λ e. All (λ f. e.time ≤ f.time) ys × All (λ f. e.time ≤ f.time) xs)
  taken_due t xs ys None at from low = tt
  taken_due t xs ys (Some e) at from low = (All-weaker (λ f. t ≤ f.time) (λ f. e.time ≤ f.time) (λ f m. omega arith) ys low, All-weaker (λ f. t ≤ f.time) (λ f. e.time ≤ f.time) (λ f m. omega arith) xs from)

-- What a call says of the event that it gives

pub taken_at : {E : Type 0} {next : Option E} {x : E} {before after : List E} → next ≡ Some x → IfSome next (λ e. IsPermutation before (e ∷ after)) → IsPermutation before (x ∷ after)
taken_at {before} {after} is h = subst (λ o. IfSome o (λ e. IsPermutation before (e ∷ after))) is h

pub least_at : {E : Type 0} (cmp : E → E → Ordering) {next : Option E} {x : E} (xs : List E) → next ≡ Some x → IfSome next (λ e. All (AtMost cmp e) xs) → All (AtMost cmp x) xs
least_at cmp xs is h = subst (λ o. IfSome o (λ e. All (AtMost cmp e) xs)) is h

pub reached_at : {B : Type 0} {next : Option (Event B)} {x : Event B} {t : ℕ} → next ≡ Some x → IfSome next (λ e. t ≡ e.time) → t ≡ x.time
reached_at {t} is h = subst (λ o. IfSome o (λ e. t ≡ e.time)) is h

pub none_at : {E : Type 0} {next : Option E} {xs : List E} → next ≡ None → IfNone next (xs ≡ []) → xs ≡ []
none_at {xs} is h = subst (λ o. IfNone o (xs ≡ [])) is h

pub reached_is : {B : Type 0} (next : Option (Event B)) (s t : ℕ) → t ≡ time_or next s → IfSome next (λ e. t ≡ e.time)
reached_is None s t is = tt
reached_is (Some e) s t is = is
