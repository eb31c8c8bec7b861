-- How many events are executed: while one is pending, those so far are fewer than all, and with those of what is left they
-- are all.
use Rattle.std.proofs.Common.{◌≡◌, ℕ, zero, suc, ◌+◌, ◌<◌, ◌≤◌, Bool, true, false, List, [], ◌∷◌, ◌++◌, refl, sym, ◌∙◌, ap, subst, arith, add-zero, zero-add, length, get_or, length-append, replicate, Option, Some, None, All, IfNone, IsPermutation}
use Rattle.std.specs.List.{sum_by}
use Rattle.std.proofs.lemmas.List.Sums.{sum_by-cons, sum_by-set}
use Rattle.std.specs.List.{slice_set}
use Rattle.rw_vt.specs.declared.event.Event.{Event}
use Rattle.rw_vt.specs.Limits.{end_of_time}
use Rattle.rw_vt.specs.Order.{AtMost}
use Rattle.rw_vt.specs.System.{System, map_from, slice, journal_below, state_after}
use Rattle.rw_vt.proofs.Rest.{rest_follows, states_by}
use Rattle.rw_serial.specs.Counts.{IsCountOf, events_below}
use Rattle.rw_serial.proofs.Lists.{at_list, length-map_from}
use Rattle.rw_serial.proofs.Midrun.{IsMidrun, has_length, next_inside, next_least, next_there, slice_has, to_come}

length_of_parts : {E : Type 0} (a b c : List E) → length ((a ++ b) ++ c) ≡ (length a + length b) + length c
length_of_parts a b c = omega (arith, length-append (a ++ b) c, length-append a b)

one_further : (k i : ℕ) → k + suc i ≡ (k + 1) + i
one_further k i = omega arith

-- lists that are no longer than those of a family have no more elements in all
all_at : {A E : Type 0} (k : ℕ) (js : List (List E)) (xs : List A) (f : ℕ → List E) → length js ≡ length xs → ((j : ℕ) → length (get_or js j []) ≤ length (f (k + j)))
    → sum_by length js ≤ sum_by length (map_from k (λ q _. f q) xs)
all_at k [] [] f n h = omega arith
all_at k [] (x ∷ xs) f n h = cc
all_at k (j ∷ js) [] f n h = cc
all_at k (j ∷ js) (x ∷ xs) f n h =
    let rest = all_at (k + 1) js xs f (omega arith) (λ i. subst (λ m. length (get_or js i []) ≤ length (f m)) (one_further k i) (h (suc i))) in
    let here = subst (λ m. length j ≤ length (f m)) (add-zero k) (h 0) in
    omega (arith, rest, here, sum_by-cons length j js, sum_by-cons length (f k) (map_from (k + 1) (λ q _. f q) xs))

-- and fewer, where one of them is shorter
more_at : {A E : Type 0} (k i : ℕ) (js : List (List E)) (xs : List A) (f : ℕ → List E) → length js ≡ length xs → i < length xs → ((j : ℕ) → length (get_or js j []) ≤ length (f (k + j)))
    → length (get_or js i []) < length (f (k + i)) → sum_by length js < sum_by length (map_from k (λ q _. f q) xs)
more_at k i js [] f n l h fewer = absurd (omega arith)
more_at k i [] (x ∷ xs) f n l h fewer = cc
more_at k zero (j ∷ js) (x ∷ xs) f n l h fewer =
    let rest = all_at (k + 1) js xs f (omega arith) (λ i. subst (λ m. length (get_or js i []) ≤ length (f m)) (one_further k i) (h (suc i))) in
    let here = subst (λ m. length j < length (f m)) (add-zero k) fewer in
    omega (arith, rest, here, sum_by-cons length j js, sum_by-cons length (f k) (map_from (k + 1) (λ q _. f q) xs))
more_at k (suc i) (j ∷ js) (x ∷ xs) f n l h fewer =
    let rest = more_at (k + 1) i js xs f (omega arith) (omega arith) (λ m. subst (λ q. length (get_or js m []) ≤ length (f q)) (one_further k m) (h (suc m))) (subst (λ q. length (get_or js i []) < length (f q)) (one_further k i) fewer) in
    let here = subst (λ m. length j ≤ length (f m)) (add-zero k) (h 0) in
    omega (arith, rest, here, sum_by-cons length j js, sum_by-cons length (f k) (map_from (k + 1) (λ q _. f q) xs))

module _ {S B : Type 0} {y : System S B} {WellFormed : ℕ → S → Type 0} {ss : List S} {js : List (List (Event B))} {P : List (Event B)} (run : IsMidrun y WellFormed ss js P)
    {x : Event B} {R : List (Event B)} (taken : IsPermutation P (x ∷ R)) (least : All (AtMost y.rules.order x) P) where
  coming : (t : ℕ) → x.time < t → (q : ℕ) → (rest : List (Event B)) × (journal_below y t q ≡ (at_list js q ++ slice y P x.time q) ++ rest)
  coming t l q = to_come run x (next_there run taken least) (next_least run taken least) t l q

  -- the events so far and the next one are some of all
  pub midrun_fewer : (t : ℕ) → x.time < t → sum_by length js < events_below y t
  midrun_fewer t l =
      more_at 0 x.to js y.starts (journal_below y t) run.count (next_inside run taken least).to
      (λ q. subst (λ m. length (at_list js q) ≤ length (journal_below y t m)) (sym (zero-add q)) (no_longer q))
      (subst (λ m. length (at_list js x.to) < length (journal_below y t m)) (sym (zero-add x.to)) shorter)
    where
      no_longer : (q : ℕ) → length (at_list js q) ≤ length (journal_below y t q)
      no_longer q = let c = coming t l q in omega (arith, ap length c.1, length_of_parts (at_list js q) (slice y P x.time q) c.0)

      shorter : length (at_list js x.to) < length (journal_below y t x.to)
      shorter =
          let c = coming t l x.to in
          let some = has_length y.rules.order (slice y P x.time x.to) x (slice_has run taken least) in
          omega (arith, ap length c.1, length_of_parts (at_list js x.to) (slice y P x.time x.to) c.0, some)

-- what is in lists, and what a family adds to each, is what is in the joined ones
lengths_joined : {A C E : Type 0} (k : ℕ) (js : List (List E)) (xs : List A) (ys : List C) (f g : ℕ → List E) → length js ≡ length xs → length ys ≡ length xs → ((j : ℕ) → get_or js j [] ++ g (k + j) ≡ f (k + j))
    → sum_by length js + sum_by length (map_from k (λ q _. g q) ys) ≡ sum_by length (map_from k (λ q _. f q) xs)
lengths_joined k [] [] [] f g n m h = refl
lengths_joined k [] [] (y ∷ ys) f g n m h = cc
lengths_joined k [] (x ∷ xs) ys f g n m h = cc
lengths_joined k (j ∷ js) [] ys f g n m h = cc
lengths_joined k (j ∷ js) (x ∷ xs) [] f g n m h = cc
lengths_joined k (j ∷ js) (x ∷ xs) (y ∷ ys) f g n m h =
    let rest = lengths_joined (k + 1) js xs ys f g (omega arith) (omega arith) (λ i. subst (λ w. get_or js i [] ++ g w ≡ f w) (one_further k i) (h (suc i))) in
    let here = subst (λ w. j ++ g w ≡ f w) (add-zero k) (h 0) in
    omega (
      arith,
      rest,
      ap length here,
      length-append j (g k),
      sum_by-cons length j js,
      sum_by-cons length (g k) (map_from (k + 1) (λ q _. g q) ys),
      sum_by-cons length (f k) (map_from (k + 1) (λ q _. f q) xs),
    )

-- the events so far and those of what is left are all
pub midrun_counts : {S B : Type 0} {y : System S B} {WellFormed : ℕ → S → Type 0} {ss : List S} {js : List (List (Event B))} {P : List (Event B)} (run : IsMidrun y WellFormed ss js P) (t : ℕ) → ((e : Event B) → y.rules.valid e ≡ true → e.time < t)
    → sum_by length js + events_below (record y { starts = ss; initial = P }) t ≡ events_below y t
midrun_counts {y} {ss} {js} {P} run t times =
    let states = states_by y (at_list js) in
    subst (λ l. sum_by length js + events_below (record y { starts = l; initial = P }) t ≡ events_below y t) (sym run.states_are)
    (lengths_joined 0 js y.starts states (journal_below y t) (journal_below (record y { starts = states; initial = P }) t) run.count
    (length-map_from 0 (λ q s. state_after (y.rules.step q) s (at_list js q)) y.starts)
    (λ q. subst (λ w. at_list js q ++ journal_below (record y { starts = states; initial = P }) t w ≡ journal_below y t w) (sym (zero-add q)) (rest_follows y run.law (at_list js) P run.mid t times q)))

pub midrun_counted : {S B : Type 0} {y : System S B} {WellFormed : ℕ → S → Type 0} {ss : List S} {js : List (List (Event B))} {P : List (Event B)} (run : IsMidrun y WellFormed ss js P) (n : ℕ) → n ≡ sum_by length js
    → n + events_below (record y { starts = ss; initial = P }) end_of_time ≡ events_below y end_of_time
midrun_counted {y} {ss} {P} run n is =
    subst (λ k. k + events_below (record y { starts = ss; initial = P }) end_of_time ≡ events_below y end_of_time) (sym is) (midrun_counts run end_of_time (λ e v. (run.law.inside e v).time))

-- one more is entered
pub count_entered : {E : Type 0} (js : List (List E)) (p : ℕ) (e : E) (n : ℕ) → p < length js → n ≡ sum_by length js → n + 1 ≡ sum_by length (slice_set js p (get_or js p [] ++ e ∷ []))
count_entered js p e n there is = omega (arith, sum_by-set length js p (get_or js p [] ++ e ∷ []) [] there, length-append (get_or js p []) (e ∷ []), is)

pub count_none : (E : Type 0) (n : ℕ) → 0 ≡ sum_by length (replicate n (let e : List E = [] in e))
count_none E zero = refl
count_none E (suc n) = omega (arith, count_none E n, sum_by-cons length (let e : List E = [] in e) (replicate n (let e : List E = [] in e)))

pub counts_nothing : (E : Type 0) (n : ℕ) {entered most limit : ℕ} → entered ≡ 0 → most ≡ limit → IsCountOf entered most limit (replicate n (let e : List E = [] in e))
counts_nothing E n none same = record { limited = same; counted = none ∙ count_none E n; within = omega arith }

-- a count that has no room for what is a bound of all is none
pub no_limit : (all : Bool) (n : ℕ) → (all ≡ false → (limit : ℕ) → limit < n) → all ≡ true
no_limit true n h = refl
no_limit false n h = let bad = h refl n in absurd (omega arith)

-- what follows where there is nothing
pub IfNone_then : {A P Q : Type 0} (o : Option A) → IfNone o P → (P → Q) → IfNone o Q
IfNone_then None h f = f h
IfNone_then (Some x) h f = tt
