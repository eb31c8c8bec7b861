-- The loop of a run: what holds before each step, and what that gives at the end.
use Rattle.std.proofs.Common.{◌≡◌, ◌≢◌, ℕ, zero, suc, ◌+◌, ◌-◌, ◌<◌, ◌≤◌, Bool, true, false, cond, ◌&&◌, ◌==◌, List, [], ◌∷◌, ◌++◌, refl, sym, ◌∙◌, ap, subst, arith, Some, filter, inl, inr, ◌⊎◌, zero-add, append_assoc, append-nil, length, get_or, replicate}
use Rattle.std.proofs.lemmas.Bool.Decides.{nat_tests}
use Rattle.std.proofs.lemmas.List.Elements.{All-weaker}
use Rattle.std.proofs.lemmas.Option.{same_Some}
use Rattle.std.proofs.lemmas.List.{get_or-set_same, get_or-set_other, length-set}
use Rattle.std.specs.declared.cmp.Ordering.{Ordering}
use Rattle.std.specs.List.{slice_get, slice_set, All}
use Rattle.std.specs.List.Sorted.{IsPermutation}
use Rattle.rw_vt.specs.declared.event.Event.{Event}
use Rattle.rw_vt.specs.Valid.{IsInRange, IsSentBy}
use Rattle.rw_vt.specs.Order.{AtMost, copies, Has, IsAscending}
use Rattle.rw_vt.specs.System.{System, state_after, sends_of, map_from, flatten, all_sent, slice, journal_below, IsOutcome, Meets}
use Rattle.rw_vt.proofs.Sorting.{IsExactOrder, IsAscending-append, IsAscending-in_order, copies-append, copies-filter, copies-in_order, absent, Has-append, Has-head, Has-cons, each_of_all, at_most_chain, at_most_both, at_most_itself}
use Rattle.rw_vt.proofs.Runs.{IsLawful, Fits_at, earlier_at_most, outs-append, after-append, well_formed_after, copies_joined}
use Rattle.rw_vt.proofs.Complete.{IsMidway, complete, below_more, Has-slice}
use Rattle.rw_pending.proofs.Cited.{copies-IsPermutation}
use Rattle.rw_serial.proofs.Lists.{at_list, as_family, there_below, get_map_from, map_from_same, map_from_set, copies_place, copies_joined_more, length-map_from}

pub same_or_other : (p q : ℕ) → (p ≡ q) ⊎ (p ≢ q)
same_or_other p q = by_test (p == q) refl
  where
    by_test : (b : Bool) → (p == q) ≡ b → (p ≡ q) ⊎ (p ≢ q)
    by_test true h = inl (grind (arith, nat_tests))
    by_test false h = inr (λ e. grind (arith, nat_tests))

pub none_at : {E : Type 0} (n q : ℕ) → at_list (replicate n (let e : List E = [] in e)) q ≡ []
none_at zero q = refl
none_at (suc n) zero = refl
none_at (suc n) (suc q) = none_at n q

length-none : (E : Type 0) (n : ℕ) → length (replicate n (let e : List E = [] in e)) ≡ n
length-none E zero = refl
length-none E (suc n) = ap suc (length-none E n)

joined_empty : {A E : Type 0} (k : ℕ) (xs : List A) → flatten (map_from k (λ _ _. let e : List E = [] in e) xs) ≡ []
joined_empty k [] = refl
joined_empty k (x ∷ xs) = joined_empty (k + 1) xs

map_from_own : {A : Type 0} (k : ℕ) (f : ℕ → A → A) (xs : List A) → ((j : ℕ) (x : A) → f j x ≡ x) → xs ≡ map_from k f xs
map_from_own k f [] h = refl
map_from_own k f (x ∷ xs) h = joined (sym (h k x)) (map_from_own (k + 1) f xs h)
  where
    joined : {C : Type 0} {a b : C} {ys bs : List C} → a ≡ b → ys ≡ bs → (a ∷ ys) ≡ (b ∷ bs)
    joined p q = cc

pub has_length : {E : Type 0} (cmp : E → E → Ordering) (xs : List E) (x : E) → Has cmp xs x → 0 < length xs
has_length cmp [] x h = absurd (omega arith)
has_length cmp (y ∷ ys) x h = omega arith

-- what holds before each step
pub record IsMidrun {S B : Type 0} (y : System S B) (WellFormed : ℕ → S → Type 0) (states : List S) (js : List (List (Event B))) (pending : List (Event B)) : Type 0 where
  pub law : IsLawful y WellFormed
  pub mid : IsMidway y (at_list js) pending
  pub states_are : states ≡ map_from 0 (λ q s. state_after (y.rules.step q) s (at_list js q)) y.starts
  pub count : length js ≡ length y.starts

pub length-states : {S B : Type 0} {y : System S B} {WellFormed : ℕ → S → Type 0} {states : List S} {js : List (List (Event B))} {pending : List (Event B)} → IsMidrun y WellFormed states js pending → length states ≡ length y.starts
length-states {y} {js} run = ap length run.states_are ∙ length-map_from 0 (λ q s. state_after (y.rules.step q) s (at_list js q)) y.starts

-- a sorted list that holds x and nothing below it begins with x
pub begins : {E : Type 0} {cmp : E → E → Ordering} (o : IsExactOrder cmp) (xs : List E) (x : E) → IsAscending cmp xs → Has cmp xs x → ((a : E) → Has cmp xs a → AtMost cmp x a) → (rest : List E) × (xs ≡ x ∷ rest)
begins o [] x up h l = absurd (omega arith)
begins {E} {cmp} o (z ∷ zs) x up h l = (zs, ap (λ w. w ∷ zs) (at_most_both o z x to_x (l z (Has-head o z zs))))
  where
    to_x : AtMost cmp z x
    to_x = elim (Has-cons o x z zs h) [ inl e ↦ subst (λ w. AtMost cmp z w) (sym e) (at_most_itself o z) | inr m ↦ up.0 x m ]

module _ {S B : Type 0} (y : System S B) {WellFormed : ℕ → S → Type 0} (law : IsLawful y WellFormed) where
  pub midrun_start : (js : List (List (Event B))) (P : List (Event B)) → js ≡ replicate (length y.starts) [] → IsPermutation y.initial P → IsMidrun y WellFormed y.starts js P
  midrun_start js P is moved = record { law = law; mid = record { story = record { fit = fit; up = up }; sound = sound; balance = balance; ahead = ahead }; states_are = states_are; count = ap length is ∙ length-none (Event B) (length y.starts) }
    where
      none : (q : ℕ) → at_list js q ≡ []
      none q = ap (λ l. at_list l q) is ∙ none_at (length y.starts) q

      no_event : (q : ℕ) (a : Event B) → Has y.rules.order (at_list js q) a → ⊥
      no_event q a h = let z : copies y.rules.order a (at_list js q) ≡ 0 = ap (copies y.rules.order a) (none q) in omega arith

      fit : (p : ℕ) → Fits_at y.rules p (at_list js p)
      fit p a h = absurd (no_event p a h)

      up : (p : ℕ) → IsAscending y.rules.order (at_list js p)
      up p = subst (IsAscending y.rules.order) (sym (none p)) tt

      same : (e : Event B) → copies y.rules.order e y.initial ≡ copies y.rules.order e P
      same e = copies-IsPermutation y.rules.order e y.initial P moved

      sound : (a : Event B) → Has y.rules.order P a → y.rules.valid a ≡ true
      sound a h = law.initial a (omega (arith, same a))

      ahead : (p : ℕ) (a b : Event B) → Has y.rules.order (at_list js p) a → Has y.rules.order P b → AtMost y.rules.order a b
      ahead p a b h k = absurd (no_event p a h)

      balance : (e : Event B) → copies y.rules.order e (all_sent y (at_list js)) ≡ copies y.rules.order e (at_list js e.to) + copies y.rules.order e P
      balance e =
          let o = law.rules.exact in
          let sent = copies_joined o e (λ p s. sends_of (y.rules.step p) s (at_list js p)) (λ _ _. []) 0 y.starts (λ i j s m q. ap (λ l. copies y.rules.order e (sends_of (y.rules.step j) s l)) (none j)) in
          let empty = ap (copies y.rules.order e) (joined_empty {E = Event B} 0 y.starts) in
          let here = ap (copies y.rules.order e) (none e.to) in
          copies-append o e y.initial (flatten (map_from 0 (λ p s. sends_of (y.rules.step p) s (at_list js p)) y.starts)) ∙ omega (arith, sent, empty, here, same e)

      states_are : y.starts ≡ map_from 0 (λ q s. state_after (y.rules.step q) s (at_list js q)) y.starts
      states_are = map_from_own 0 (λ q s. state_after (y.rules.step q) s (at_list js q)) y.starts (λ q s. ap (state_after (y.rules.step q) s) (none q))

-- a run in the middle, where nothing that is pending is less than x, which is
module _ {S B : Type 0} {y : System S B} {WellFormed : ℕ → S → Type 0} {ss : List S} {js : List (List (Event B))} {P : List (Event B)} (run : IsMidrun y WellFormed ss js P)
    (x : Event B) (there : Has y.rules.order P x) (least : (b : Event B) → Has y.rules.order P b → AtMost y.rules.order x b) where
  late : (a : Event B) → Has y.rules.order P a → x.time ≤ a.time
  late a h = run.law.rules.by_time x a (least a h)

  early : (p : ℕ) (a : Event B) → Has y.rules.order (at_list js p) a → a.time ≤ x.time
  early p a h = run.law.rules.by_time a x (run.mid.ahead p a x h there)

  so_far : (q : ℕ) → at_list js q ++ slice y P x.time q ≡ journal_below y (suc x.time) q
  so_far q = complete y run.law (at_list js) P run.mid x.time late early q

  -- what is to come at each process
  pub to_come : (t : ℕ) → x.time < t → (q : ℕ) → (rest : List (Event B)) × (journal_below y t q ≡ (at_list js q ++ slice y P x.time q) ++ rest)
  to_come t l q =
      let more = below_more y run.law (suc x.time) (t - suc x.time) q in
      let e : t ≡ (t - suc x.time) + suc x.time = omega arith in
      (more.0, ap (λ n. journal_below y n q) e ∙ more.1 ∙ ap (λ l. l ++ more.0) (sym (so_far q)))

  -- each copy of x that is pending is in its slice
  slice_copies : copies y.rules.order x (slice y P x.time x.to) ≡ copies y.rules.order x P
  slice_copies =
      let o = run.law.rules.exact in
      copies-in_order o x (filter (λ e. (e.time == x.time) && (e.to == x.to)) P) ∙ copies-filter o (λ e. (e.time == x.time) && (e.to == x.to)) x P ∙ both_hold x.time x.to (copies y.rules.order x P)
    where
      both_hold : (a b n : ℕ) → cond ((a == a) && (b == b)) n 0 ≡ n
      both_hold a b n = grind (arith, nat_tests)

  -- and so among all events of the whole run
  pub copies_to_come : (t : ℕ) → x.time < t → copies y.rules.order x P ≤ copies y.rules.order x (flatten (map_from 0 (λ q _. journal_below y t q) y.starts))
  copies_to_come t l =
      let o = run.law.rules.exact in
      let c = to_come t l x.to in
      let start = there_below y.starts x.to (run.law.inside x (run.mid.sound x there)).to in
      let in_place : copies y.rules.order x (journal_below y t x.to) ≤ copies y.rules.order x (flatten (map_from 0 (λ q _. journal_below y t q) y.starts)) =
      subst (λ n. copies y.rules.order x (journal_below y t n) ≤ copies y.rules.order x (flatten (map_from 0 (λ q _. journal_below y t q) y.starts))) (zero-add x.to) (copies_place o x 0 x.to (λ q _. journal_below y t q) y.starts start.0 start.1) in
      let whole = ap (copies y.rules.order x) c.1 in
      omega (arith, in_place, whole, slice_copies, copies-append o x (at_list js x.to ++ slice y P x.time x.to) c.0, copies-append o x (at_list js x.to) (slice y P x.time x.to))

-- a run in the middle, where x is a least event of those that are pending, and R are the others
module _ {S B : Type 0} {y : System S B} {WellFormed : ℕ → S → Type 0} {ss : List S} {js : List (List (Event B))} {P : List (Event B)} (run : IsMidrun y WellFormed ss js P)
    {x : Event B} {R : List (Event B)} (taken : IsPermutation P (x ∷ R)) (least : All (AtMost y.rules.order x) P) where
  law : IsLawful y WellFormed
  law = run.law

  pub same_counts : (e : Event B) → copies y.rules.order e P ≡ copies y.rules.order e (x ∷ R)
  same_counts e = copies-IsPermutation y.rules.order e P (x ∷ R) taken

  pub next_there : Has y.rules.order P x
  next_there = omega (arith, same_counts x, Has-head law.rules.exact x R)

  pub next_valid : y.rules.valid x ≡ true
  next_valid = run.mid.sound x next_there

  pub next_inside : IsInRange (length y.starts) x
  next_inside = law.inside x next_valid

  pub next_least : (b : Event B) → Has y.rules.order P b → AtMost y.rules.order x b
  next_least b h = each_of_all law.rules.exact (λ b. AtMost y.rules.order x b) P least b h

  pub start_of : (s0 : S) × (slice_get y.starts x.to ≡ Some s0)
  start_of = there_below y.starts x.to next_inside.to

  pub state_there : slice_get ss x.to ≡ Some (state_after (y.rules.step x.to) start_of.0 (at_list js x.to))
  state_there = ap (λ l. slice_get l x.to) run.states_are ∙ get_map_from 0 x.to x.to (λ q s. state_after (y.rules.step q) s (at_list js q)) y.starts start_of.0 start_of.1 (omega arith)

  pub state_is : (s : S) → slice_get ss x.to ≡ Some s → s ≡ state_after (y.rules.step x.to) start_of.0 (at_list js x.to)
  state_is s m = same_Some s (state_after (y.rules.step x.to) start_of.0 (at_list js x.to)) (sym m ∙ state_there)

  pub next_well_formed : (s : S) → slice_get ss x.to ≡ Some s → WellFormed x.to s
  next_well_formed s m = subst (λ w. WellFormed x.to w) (sym (state_is s m)) (well_formed_after law.rules x.to start_of.0 (at_list js x.to) (law.starts x.to start_of.0 start_of.1) (run.mid.story.fit x.to))

  pub slice_has : Has y.rules.order (slice y P x.time x.to) x
  slice_has = let same = slice_copies run x next_there next_least in let some = next_there in omega arith

  pub midrun_meets : (t : ℕ) → x.time < t → (test : S → Bool) → ((s : S) → slice_get ss x.to ≡ Some s → test s ≡ true) → Meets y t test
  midrun_meets t l test h =
      let o = law.rules.exact in
      let c = to_come run x next_there next_least t l x.to in
      let b = begins o (slice y P x.time x.to) x (IsAscending-in_order o (filter (λ e. (e.time == x.time) && (e.to == x.to)) P)) slice_has (λ a m. next_least a (Has-slice y law P x.time x.to a m).0) in
      record {
        process = x.to;
        start = start_of.0;
        done = at_list js x.to;
        next = x;
        rest = b.0 ++ c.0;
        starts_there = start_of.1;
        on_the_way = c.1 ∙ ap (λ l. (at_list js x.to ++ l) ++ c.0) b.1 ∙ append_assoc (at_list js x.to) (x ∷ b.0) c.0;
        passes = h (state_after (y.rules.step x.to) start_of.0 (at_list js x.to)) state_there;
      }

  -- what x sends is later
  pub next_sends_later : (sent : List (Event B)) → ((s : S) → slice_get ss x.to ≡ Some s → sent ≡ (y.rules.step x.to s x).1) → All (λ f. x.time < f.time) sent
  next_sends_later sent sends =
      let s = state_after (y.rules.step x.to) start_of.0 (at_list js x.to) in
      subst (All (λ f. x.time < f.time)) (sym (sends s state_there))
      (All-weaker (λ f. IsSentBy x.to x f × (y.rules.valid f ≡ true)) (λ f. x.time < f.time) (λ f h. h.0.later) (y.rules.step x.to s x).1 (law.rules.future x.to s x (next_well_formed s state_there) next_valid refl))

  -- one step further
  module _ (s : S) (there : slice_get ss x.to ≡ Some s) (ss' : List S) (js' : List (List (Event B))) (Q : List (Event B))
      (ss_is : ss' ≡ slice_set ss x.to (y.rules.step x.to s x).0) (js_is : js' ≡ slice_set js x.to (get_or js x.to [] ++ x ∷ [])) (joined : IsPermutation (R ++ (y.rules.step x.to s x).1) Q) where
    pub added : (e : Event B) → copies y.rules.order e Q ≡ copies y.rules.order e R + copies y.rules.order e (y.rules.step x.to s x).1
    added e = sym (copies-IsPermutation y.rules.order e (R ++ (y.rules.step x.to s x).1) Q joined) ∙ copies-append law.rules.exact e R (y.rules.step x.to s x).1

    same_place : at_list js' x.to ≡ at_list js x.to ++ x ∷ []
    same_place = ap (λ l. get_or l x.to []) js_is ∙ get_or-set_same js x.to (get_or js x.to [] ++ x ∷ []) [] (let l = next_inside.to in let n = run.count in omega arith)

    other_place : (q : ℕ) → q ≢ x.to → at_list js' q ≡ at_list js q
    other_place q ne = ap (λ l. get_or l q []) js_is ∙ get_or-set_other js x.to q (get_or js x.to [] ++ x ∷ []) [] ne

    is_x : (a : Event B) → Has y.rules.order (x ∷ []) a → a ≡ x
    is_x a h = elim (Has-cons law.rules.exact a x [] h) [ inl e ↦ e | inr m ↦ absurd (omega arith) ]

    was_pending : (b : Event B) → Has y.rules.order R b → Has y.rules.order P b
    was_pending b h = omega (arith, same_counts b)

    sent : (b : Event B) → Has y.rules.order (y.rules.step x.to s x).1 b → IsSentBy x.to x b × (y.rules.valid b ≡ true)
    sent b h = each_of_all law.rules.exact (λ f. IsSentBy x.to x f × (y.rules.valid f ≡ true)) (y.rules.step x.to s x).1 (law.rules.future x.to s x (next_well_formed s there) next_valid refl) b h

    now_pending : (b : Event B) → Has y.rules.order Q b → Has y.rules.order P b ⊎ Has y.rules.order (y.rules.step x.to s x).1 b
    now_pending b h = elim (Has-append law.rules.exact b R (y.rules.step x.to s x).1 (omega (arith, added b, copies-append law.rules.exact b R (y.rules.step x.to s x).1))) [ inl m ↦ inl (was_pending b m) | inr m ↦ inr m ]

    now_done : (q : ℕ) (a : Event B) → Has y.rules.order (at_list js' q) a → Has y.rules.order (at_list js q) a ⊎ ((a ≡ x) × (q ≡ x.to))
    now_done q a h = elim (same_or_other q x.to) [
      | inl e ↦ elim (Has-append law.rules.exact a (at_list js x.to) (x ∷ []) (subst (λ l. Has y.rules.order l a) (ap (at_list js') e ∙ same_place) h)) [
        | inl m ↦ inl (subst (λ p. Has y.rules.order (at_list js p) a) (sym e) m)
        | inr m ↦ inr (is_x a m, e)
      ]
      | inr ne ↦ inl (subst (λ l. Has y.rules.order l a) (other_place q ne) h)
    ]

    fit : (q : ℕ) → Fits_at y.rules q (at_list js' q)
    fit q a h = elim (now_done q a h) [
      | inl m ↦ run.mid.story.fit q a m
      | inr e ↦ (ap (λ (w : Event B). w.to) e.0 ∙ sym e.1, ap y.rules.valid e.0 ∙ next_valid)
    ]

    up_there : IsAscending y.rules.order (at_list js x.to ++ x ∷ [])
    up_there = IsAscending-append law.rules.exact (at_list js x.to) (x ∷ []) (run.mid.story.up x.to) ((λ a h. absurd (omega arith)), tt) (λ a b h k. subst (λ w. AtMost y.rules.order a w) (sym (is_x b k)) (run.mid.ahead x.to a x h next_there))

    up : (q : ℕ) → IsAscending y.rules.order (at_list js' q)
    up q = elim (same_or_other q x.to) [
      | inl e ↦ subst (IsAscending y.rules.order) (sym (ap (at_list js') e ∙ same_place)) up_there
      | inr ne ↦ subst (IsAscending y.rules.order) (sym (other_place q ne)) (run.mid.story.up q)
    ]

    sound : (b : Event B) → Has y.rules.order Q b → y.rules.valid b ≡ true
    sound b h = elim (now_pending b h) [ inl m ↦ run.mid.sound b m | inr m ↦ (sent b m).1 ]

    pub after_x : (b : Event B) → Has y.rules.order Q b → AtMost y.rules.order x b
    after_x b h = elim (now_pending b h) [ inl m ↦ next_least b m | inr m ↦ earlier_at_most law.rules x b (sent b m).0.later ]

    ahead : (q : ℕ) (a b : Event B) → Has y.rules.order (at_list js' q) a → Has y.rules.order Q b → AtMost y.rules.order a b
    ahead q a b h k = elim (now_done q a h) [
      | inl m ↦ at_most_chain law.rules.exact a x b (run.mid.ahead q a x m next_there) (after_x b k)
      | inr e ↦ subst (λ w. AtMost y.rules.order w b) (sym e.0) (after_x b k)
    ]

    done_counts : (e : Event B) → copies y.rules.order e (at_list js' e.to) ≡ copies y.rules.order e (at_list js e.to) + copies y.rules.order e (x ∷ [])
    done_counts e = elim (same_or_other e.to x.to) [
      | inl q ↦ ap (λ p. copies y.rules.order e (at_list js' p)) q ∙ ap (copies y.rules.order e) same_place ∙ copies-append law.rules.exact e (at_list js x.to) (x ∷ []) ∙ ap (λ p. copies y.rules.order e (at_list js p) + copies y.rules.order e (x ∷ [])) (sym q)
      | inr ne ↦
          let none : copies y.rules.order e (x ∷ []) ≡ 0 = absent law.rules.exact e (x ∷ []) (λ h. ne (ap (λ (w : Event B). w.to) (is_x e h))) in
          let same = ap (copies y.rules.order e) (other_place e.to ne) in
          omega arith
    ]

    outs_there : sends_of (y.rules.step x.to) start_of.0 (at_list js' x.to) ≡ sends_of (y.rules.step x.to) start_of.0 (at_list js x.to) ++ (y.rules.step x.to s x).1
    outs_there =
        ap (sends_of (y.rules.step x.to) start_of.0) same_place ∙ outs-append (y.rules.step x.to) start_of.0 (at_list js x.to) (x ∷ [])
        ∙ ap (λ l. sends_of (y.rules.step x.to) start_of.0 (at_list js x.to) ++ l) (append-nil (y.rules.step x.to (state_after (y.rules.step x.to) start_of.0 (at_list js x.to)) x).1)
        ∙ ap (λ w. sends_of (y.rules.step x.to) start_of.0 (at_list js x.to) ++ (y.rules.step x.to w x).1) (sym (state_is s there))

    sent_counts : (e : Event B) → copies y.rules.order e (all_sent y (at_list js')) ≡ copies y.rules.order e (all_sent y (at_list js)) + copies y.rules.order e (y.rules.step x.to s x).1
    sent_counts e =
        let o = law.rules.exact in
        let here : copies y.rules.order e (sends_of (y.rules.step (0 + x.to)) start_of.0 (at_list js' (0 + x.to))) ≡ copies y.rules.order e (sends_of (y.rules.step (0 + x.to)) start_of.0 (at_list js (0 + x.to))) + copies y.rules.order e (y.rules.step x.to s x).1 =
        rw (zero-add) (ap (copies y.rules.order e) outs_there ∙ copies-append o e (sends_of (y.rules.step x.to) start_of.0 (at_list js x.to)) (y.rules.step x.to s x).1) in
        let joined = copies_joined_more o e (copies y.rules.order e (y.rules.step x.to s x).1) 0 x.to (λ q c. sends_of (y.rules.step q) c (at_list js q)) (λ q c. sends_of (y.rules.step q) c (at_list js' q)) y.starts start_of.0 start_of.1 here
        (λ j c ne. ap (sends_of (y.rules.step j) c) (other_place j (λ q. ne (q ∙ sym (zero-add x.to))))) in
        copies-append o e y.initial (flatten (map_from 0 (λ q c. sends_of (y.rules.step q) c (at_list js' q)) y.starts))
        ∙ omega (arith, joined, copies-append o e y.initial (flatten (map_from 0 (λ q c. sends_of (y.rules.step q) c (at_list js q)) y.starts)))

    balance : (e : Event B) → copies y.rules.order e (all_sent y (at_list js')) ≡ copies y.rules.order e (at_list js' e.to) + copies y.rules.order e Q
    balance e =
        omega (arith, added e, same_counts e, done_counts e, run.mid.balance e, sent_counts e)

    states_now : ss' ≡ map_from 0 (λ q c. state_after (y.rules.step q) c (at_list js' q)) y.starts
    states_now =
        ss_is ∙ ap (λ l. slice_set l x.to (y.rules.step x.to s x).0) run.states_are
        ∙ map_from_set 0 x.to (λ q c. state_after (y.rules.step q) c (at_list js q)) (λ q c. state_after (y.rules.step q) c (at_list js' q)) y.starts start_of.0 (y.rules.step x.to s x).0 start_of.1
        (rw (zero-add) (ap (state_after (y.rules.step x.to) start_of.0) same_place ∙ after-append (y.rules.step x.to) start_of.0 (at_list js x.to) (x ∷ []) ∙ ap (λ w. (y.rules.step x.to w x).0) (sym (state_is s there))))
        (λ j c ne. ap (state_after (y.rules.step j) c) (sym (other_place j (λ q. ne (q ∙ sym (zero-add x.to))))))

    pub midrun_step : IsMidrun y WellFormed ss' js' Q
    midrun_step = record {
      law = law;
      mid = record { story = record { fit = fit; up = up }; sound = sound; balance = balance; ahead = ahead };
      states_are = states_now;
      count = ap length js_is ∙ length-set js x.to (get_or js x.to [] ++ x ∷ []) ∙ run.count;
    }

  -- the same from clauses that speak of whatever state stands there
  pub midrun_step_by : (ss' : List S) (js' : List (List (Event B))) (sent Q : List (Event B))
      → ((s : S) → slice_get ss x.to ≡ Some s → ss' ≡ slice_set ss x.to (y.rules.step x.to s x).0)
      → js' ≡ slice_set js x.to (get_or js x.to [] ++ x ∷ [])
      → ((s : S) → slice_get ss x.to ≡ Some s → sent ≡ (y.rules.step x.to s x).1)
      → IsPermutation (R ++ sent) Q
      → IsMidrun y WellFormed ss' js' Q
  midrun_step_by ss' js' sent Q states journals sends joined =
      let s = state_after (y.rules.step x.to) start_of.0 (at_list js x.to) in
      midrun_step s state_there ss' js' Q (states s state_there) journals (subst (λ l. IsPermutation (R ++ l) Q) (sends s state_there) joined)

-- with nothing pending, the run is done
module _ {S B : Type 0} {y : System S B} {WellFormed : ℕ → S → Type 0} {ss : List S} {js : List (List (Event B))} {P : List (Event B)} (run : IsMidrun y WellFormed ss js P) where
  pub midrun_done : (t u : ℕ) → t ≡ suc u → ((e : Event B) → IsInRange (length y.starts) e → e.time < t) → P ≡ [] → IsOutcome y t js ss
  midrun_done t u t_is times none = record { journals_are = journals_are; states_are = run.states_are ∙ map_from_same 0 (λ q s. state_after (y.rules.step q) s (at_list js q)) (λ q s. state_after (y.rules.step q) s (journal_below y t q)) y.starts (λ i j s m e. ap (state_after (y.rules.step j) s) (whole j)) }
    where
      early : (p : ℕ) (a : Event B) → Has y.rules.order (at_list js p) a → a.time ≤ u
      early p a h = let l = times a (run.law.inside a (run.mid.story.fit p a h).1) in omega arith

      whole : (q : ℕ) → at_list js q ≡ journal_below y t q
      whole q = sym (append-nil (at_list js q)) ∙ complete y run.law (at_list js) [] (subst (λ l. IsMidway y (at_list js) l) none run.mid) u (λ a h. absurd (omega arith)) early q ∙ ap (λ n. journal_below y n q) (sym t_is)

      journals_are : js ≡ map_from 0 (λ q _. journal_below y t q) y.starts
      journals_are = as_family 0 y.starts js (journal_below y t) run.count (λ i. ap (journal_below y t) (zero-add i) ∙ sym (whole i))
