-- A run that has reached some time: where it begins, how it goes on, and what it comes to.
use Rattle.std.proofs.Common.{◌≡◌, ◌≢◌, ℕ, zero, suc, ◌+◌, ◌-◌, ◌<◌, ◌≤◌, Bool, true, cond, List, [], ◌∷◌, ◌++◌, refl, sym, ◌∙◌, ap, subst, arith, filter, inl, inr, zero-add, append_assoc, append-nil, nat_le}
use Rattle.std.proofs.lemmas.Bool.{cases_lt}
use Rattle.std.proofs.lemmas.Bool.Decides.{nat_tests}
use Rattle.std.proofs.lemmas.List.Elements.{All-weaker}
use Rattle.std.specs.declared.cmp.Ordering.{Ordering}
use Rattle.std.specs.List.{All}
use Rattle.rw_vt.specs.declared.event.Event.{Event}
use Rattle.rw_vt.specs.Order.{copies, Has}
use Rattle.rw_vt.specs.System.{System, state_after, sends_of, map_from, flatten, all_sent, slice, journal_below, Meets}
use Rattle.rw_vt.specs.Rest.{MayCome, IsRestOf}
use Rattle.rw_vt.specs.Moments.{AreStatesAt, waiting_at, HasReached}
use Rattle.rw_vt.proofs.Sorting.{IsExactOrder, Has-head, copies-append, copies-filter, absent, Has-append, each_of_all}
use Rattle.rw_vt.proofs.Runs.{IsLawful, Fits_at, earlier_at_most, outs-append, after-append}
use Rattle.rw_vt.proofs.Slices.{agree_below, before_all}
use Rattle.rw_vt.proofs.Complete.{IsMidway, below_more, Has-slice, complete}
use Rattle.rw_vt.proofs.Rest.{states_by, made_of, more_lawful, midway_more, sent_by, Has-joined, IsDoneBelow, done_below, rest_lawful, rest_follows_at, rest_states, rest_of, copies_in_parts, none_joined, none_done, made_itself, made_alike, made_twice}

from_yes : (t k n : ℕ) → t ≤ k → cond (nat_le t k) n 0 ≡ n
from_yes t k n l = grind (arith, nat_tests)

from_no : (t k n : ℕ) → k < t → cond (nat_le t k) n 0 ≡ 0
from_no t k n l = grind (arith, nat_tests)

from_zero : (k n : ℕ) → cond (nat_le 0 k) n 0 ≡ n
from_zero k n = grind (arith, nat_tests)

none_has : {E : Type 0} {cmp : E → E → Ordering} → IsExactOrder cmp → (xs : List E) → ((a : E) → Has cmp xs a → ⊥) → xs ≡ []
none_has o [] h = refl
none_has o (x ∷ xs) h = absurd (h x (Has-head o x xs))

-- where there is nothing to do, nothing is done
none_comes : {S B : Type 0} (y : System S B) → IsExactOrder y.rules.order → (t : ℕ) → HasReached (record y { initial = [] }) t y.starts []
none_comes y o t = record {
  states_are = (map_from 0 (λ q _. journal_below (record y { initial = [] }) t q) y.starts, record { journals_are = refl; states_are = made_itself 0 (λ q s. state_after (y.rules.step q) s (journal_below (record y { initial = [] }) t q)) y.starts (λ q s. ap (state_after (y.rules.step q) s) (none_done y t q)) });
  waiting_are = λ e. sym (ap (λ l. copies y.rules.order e (filter (λ e. nat_le t e.time) l)) (none_joined 0 (λ p s. sends_of (y.rules.step p) s (journal_below (record y { initial = [] }) t p)) y.starts (λ p s. ap (sends_of (y.rules.step p) s) (none_done y t p))));
}

module _ {S B : Type 0} (y : System S B) {WellFormed : ℕ → S → Type 0} (law : IsLawful y WellFormed) where
  -- how often an event waits
  waits : (t : ℕ) (e : Event B) → copies y.rules.order e (waiting_at y t) ≡ cond (nat_le t e.time) (copies y.rules.order e (all_sent y (λ p. journal_below y t p))) 0
  waits t e = copies-filter law.rules.exact (λ e. nat_le t e.time) e (all_sent y (λ p. journal_below y t p))

  -- the states by the journals are the states at t
  states_at : (t : ℕ) → AreStatesAt y t (states_by y (λ q. journal_below y t q))
  states_at t = (map_from 0 (λ q _. journal_below y t q) y.starts, record { journals_are = refl; states_are = refl })

  -- what is sent is valid
  sent_valid : (J : ℕ → List (Event B)) → ((p : ℕ) → Fits_at y.rules p (J p)) → (a : Event B) → Has y.rules.order (all_sent y J) a → y.rules.valid a ≡ true
  sent_valid J fit a h = elim (Has-append law.rules.exact a y.initial (flatten (map_from 0 (λ p s. sends_of (y.rules.step p) s (J p)) y.starts)) h) [
    | inl m ↦ law.initial a m
    | inr m ↦
        let found = Has-joined law.rules.exact 0 (λ p s. sends_of (y.rules.step p) s (J p)) y.starts a m in
        let there = subst (λ n. Has y.rules.order (sends_of (y.rules.step n) found.1 (J n)) a) (zero-add found.0) found.3 in
        (sent_by law.rules found.0 found.1 (J found.0) a (law.starts found.0 found.1 found.2) (fit found.0) there).3
  ]

  -- a run midway, where all that is done is before t and nothing else is, has reached t
  module _ (t : ℕ) (J : ℕ → List (Event B)) (P : List (Event B)) (mid : IsMidway y J P)
      (late : (a : Event B) → Has y.rules.order P a → t ≤ a.time) (early : (p : ℕ) (a : Event B) → Has y.rules.order (J p) a → a.time < t) where
    o : IsExactOrder y.rules.order
    o = law.rules.exact

    no_slice : (u : ℕ) → t ≡ suc u → (q : ℕ) → slice y P u q ≡ []
    no_slice u is q = none_has o (slice y P u q) (λ a h. let found = Has-slice y law P u q a h in let e = found.1 in let l = late a found.0 in absurd (omega arith))

    journals_by : (n : ℕ) → t ≡ n → (q : ℕ) → J q ≡ journal_below y n q
    unfolding journal_below
    journals_by zero is q = none_has o (J q) (λ a h. let l = early q a h in absurd (omega arith))
    journals_by (suc u) is q =
        sym (append-nil (J q)) ∙ ap (λ l. J q ++ l) (sym (no_slice u is q))
        ∙ complete y law J P mid u (λ a h. let l = late a h in omega arith) (λ p a h. let l = early p a h in omega arith) q

    pub midway_journals : (q : ℕ) → J q ≡ journal_below y t q
    midway_journals q = journals_by t refl q

    same_sent : (e : Event B) → copies y.rules.order e (all_sent y J) ≡ copies y.rules.order e (all_sent y (λ p. journal_below y t p))
    same_sent e = ap (λ l. copies y.rules.order e (y.initial ++ flatten l)) (made_alike 0 (λ p s. sends_of (y.rules.step p) s (J p)) (λ p s. sends_of (y.rules.step p) s (journal_below y t p)) y.starts (λ p s. ap (sends_of (y.rules.step p) s) (midway_journals p)))

    waiting_is : (e : Event B) → copies y.rules.order e P ≡ copies y.rules.order e (waiting_at y t)
    waiting_is e = elim (cases_lt e.time t) [
      | inl l ↦
          let none = absent o e P (λ h. let k = late e h in absurd (omega arith)) in
          none ∙ sym (waits t e ∙ from_no t e.time (copies y.rules.order e (all_sent y (λ p. journal_below y t p))) l)
      | inr l ↦
          let none = absent o e (J e.to) (λ h. let k = early e.to e h in absurd (omega arith)) in
          let all : copies y.rules.order e P ≡ copies y.rules.order e (all_sent y J) = omega (arith, mid.balance e, none) in
          all ∙ same_sent e ∙ sym (waits t e ∙ from_yes t e.time (copies y.rules.order e (all_sent y (λ p. journal_below y t p))) (omega arith))
    ]

    pub midway_reached : HasReached y t (states_by y J) P
    midway_reached = record {
      states_are = subst (AreStatesAt y t) (sym (made_alike 0 (λ q s. state_after (y.rules.step q) s (J q)) (λ q s. state_after (y.rules.step q) s (journal_below y t q)) y.starts (λ q s. ap (state_after (y.rules.step q) s) (midway_journals q)))) (states_at t);
      waiting_are = waiting_is;
    }

  -- what has reached t is midway there
  module _ (t : ℕ) (ss : List S) (P : List (Event B)) (come : HasReached y t ss P) where
    pub reached_states : ss ≡ states_by y (λ q. journal_below y t q)
    reached_states = come.states_are.1.states_are

    done : IsDoneBelow y t (λ q. journal_below y t q)
    done = done_below y law t

    counts : (e : Event B) → copies y.rules.order e P ≡ cond (nat_le t e.time) (copies y.rules.order e (all_sent y (λ p. journal_below y t p))) 0
    counts e = come.waiting_are e ∙ waits t e

    -- none that waits is before t
    pub reached_late : (a : Event B) → Has y.rules.order P a → t ≤ a.time
    reached_late a h = elim (cases_lt a.time t) [
      | inl l ↦ let none = counts a ∙ from_no t a.time (copies y.rules.order a (all_sent y (λ p. journal_below y t p))) l in absurd (omega arith)
      | inr l ↦ omega arith
    ]

    all_there : (e : Event B) → t ≤ e.time → copies y.rules.order e P ≡ copies y.rules.order e (all_sent y (λ p. journal_below y t p))
    all_there e l = counts e ∙ from_yes t e.time (copies y.rules.order e (all_sent y (λ p. journal_below y t p))) l

    balance : (e : Event B) → copies y.rules.order e (all_sent y (λ p. journal_below y t p)) ≡ copies y.rules.order e (journal_below y t e.to) + copies y.rules.order e P
    balance e = elim (cases_lt e.time t) [
      | inl l ↦ let none = counts e ∙ from_no t e.time (copies y.rules.order e (all_sent y (λ p. journal_below y t p))) l in omega (arith, none, done.exact e l)
      | inr l ↦
          let none = absent law.rules.exact e (journal_below y t e.to) (λ h. let k = done.early e.to e h in absurd (omega arith)) in
          omega (arith, none, all_there e (omega arith))
    ]

    pub reached_midway : IsMidway y (λ q. journal_below y t q) P
    reached_midway = record {
      story = done.story;
      sound = λ a h. sent_valid (λ q. journal_below y t q) done.story.fit a (let all = all_there a (reached_late a h) in omega arith);
      balance = balance;
      ahead = λ p a b h k. let l = done.early p a h in let m = reached_late b k in earlier_at_most law.rules a b (omega arith);
    }

    -- what is left ends as the run does, whatever comes from t on
    pub reached_rest : IsRestOf y t ss P
    reached_rest = subst (λ l. IsRestOf y t l P) (sym reached_states) (rest_of y law t (λ q. journal_below y t q) P reached_midway done.early)

    -- and is lawful
    pub reached_lawful : IsLawful (record y { starts = ss; initial = P }) WellFormed
    reached_lawful = subst (λ l. IsLawful (record y { starts = l; initial = P }) WellFormed) (sym reached_states) (rest_lawful y law (λ q. journal_below y t q) P reached_midway)

  -- at the beginning nothing is done, and the initial events wait
  pub reached_at_start : HasReached y 0 y.starts y.initial
  unfolding journal_below
  reached_at_start = record {
    states_are = (map_from 0 (λ q _. journal_below y 0 q) y.starts, record { journals_are = refl; states_are = made_itself 0 (λ q s. state_after (y.rules.step q) s (journal_below y 0 q)) y.starts (λ q s. refl) });
    waiting_are = λ e.
        let sent = flatten (map_from 0 (λ p s. sends_of (y.rules.step p) s (journal_below y 0 p)) y.starts) in
        let none : copies y.rules.order e sent ≡ 0 = ap (copies y.rules.order e) (none_joined 0 (λ p s. sends_of (y.rules.step p) s (journal_below y 0 p)) y.starts (λ p s. refl)) in
        let all = waits 0 e ∙ from_zero e.time (copies y.rules.order e (y.initial ++ sent)) ∙ copies-append law.rules.exact e y.initial sent in
        omega (arith, all, none);
  }

  -- all that is sent where each process executes one journal and then another
  sent_in_parts : (J L : ℕ → List (Event B)) (e : Event B) → copies y.rules.order e (all_sent y (λ q. J q ++ L q))
      ≡ copies y.rules.order e (all_sent y J) + copies y.rules.order e (flatten (map_from 0 (λ q s. sends_of (y.rules.step q) s (L q)) (states_by y J)))
  sent_in_parts J L e =
      let o = law.rules.exact in
      let here : ℕ → S → List (Event B) = λ p s. sends_of (y.rules.step p) s (J p) in
      let there : ℕ → S → List (Event B) = λ p s. sends_of (y.rules.step p) (state_after (y.rules.step p) s (J p)) (L p) in
      let both : ℕ → S → List (Event B) = λ p s. sends_of (y.rules.step p) s (J p ++ L p) in
      let late : ℕ → S → List (Event B) = λ p s. sends_of (y.rules.step p) s (L p) in
      let parts = copies_in_parts o e 0 both here there y.starts (λ p s. outs-append (y.rules.step p) s (J p) (L p)) in
      let same = ap (λ l. copies y.rules.order e (flatten l)) (made_twice 0 (λ q s. state_after (y.rules.step q) s (J q)) late y.starts) in
      copies-append o e y.initial (flatten (map_from 0 both y.starts)) ∙ omega (arith, parts, same, copies-append o e y.initial (flatten (map_from 0 here y.starts)))

  module _ (t u : ℕ) (last : List S) (P Q : List (Event B)) (ordered : t ≤ u) (first : HasReached y t (states_by y (λ q. journal_below y t q)) P)
      (second : HasReached (record y { starts = states_by y (λ q. journal_below y t q); initial = P }) u last Q) where
    abbrev J : ℕ → List (Event B)
    J = λ q. journal_below y t q

    abbrev z : System S B
    z = record y { starts = states_by y (λ q. journal_below y t q); initial = P }

    mid : IsMidway y (λ q. journal_below y t q) P
    mid = reached_midway t (states_by y (λ q. journal_below y t q)) P first

    soon : (q : ℕ) (a : Event B) → Has y.rules.order (J q) a → a.time < u
    soon q a h = let l = (done_below y law t).early q a h in omega arith

    follows : (q : ℕ) → J q ++ journal_below z u q ≡ journal_below y u q
    follows q = rest_follows_at y law J P mid u soon q

    same_sent_on : (e : Event B) → copies y.rules.order e (all_sent y (λ q. J q ++ journal_below z u q)) ≡ copies y.rules.order e (all_sent y (λ p. journal_below y u p))
    same_sent_on e = ap (λ l. copies y.rules.order e (y.initial ++ flatten l)) (made_alike 0 (λ p s. sends_of (y.rules.step p) s (J p ++ journal_below z u p)) (λ p s. sends_of (y.rules.step p) s (journal_below y u p)) y.starts (λ p s. ap (sends_of (y.rules.step p) s) (follows p)))

    waits_on : (e : Event B) → copies y.rules.order e Q ≡ cond (nat_le u e.time) (copies y.rules.order e (all_sent z (λ p. journal_below z u p))) 0
    waits_on e = second.waiting_are e ∙ copies-filter law.rules.exact (λ e. nat_le u e.time) e (all_sent z (λ p. journal_below z u p))

    waiting_on : (e : Event B) → copies y.rules.order e Q ≡ copies y.rules.order e (waiting_at y u)
    waiting_on e = elim (cases_lt e.time u) [
      | inl l ↦
          waits_on e ∙ from_no u e.time (copies y.rules.order e (all_sent z (λ p. journal_below z u p))) l
          ∙ sym (waits u e ∙ from_no u e.time (copies y.rules.order e (all_sent y (λ p. journal_below y u p))) l)
      | inr l ↦
          let o = law.rules.exact in
          let m : u ≤ e.time = omega arith in
          let sends = flatten (map_from 0 (λ q s. sends_of (y.rules.step q) s (journal_below z u q)) (states_by y J)) in
          let left_is = waits_on e ∙ from_yes u e.time (copies y.rules.order e (all_sent z (λ p. journal_below z u p))) m in
          let right_is = waits u e ∙ from_yes u e.time (copies y.rules.order e (all_sent y (λ p. journal_below y u p))) m in
          let there = all_there t (states_by y J) P first e (omega arith) in
          omega (arith, left_is, right_is, there, copies-append o e P sends, sent_in_parts J (λ q. journal_below z u q) e, same_sent_on e)
    ]

    reached_on : HasReached y u last Q
    reached_on = record {
      states_are = (map_from 0 (λ q _. journal_below y u q) y.starts, record { journals_are = refl; states_are = second.states_are.1.states_are ∙ rest_states y law J P mid u soon });
      waiting_are = waiting_on;
    }

  -- a run goes on from what it has reached
  pub reached_further : (t u : ℕ) (ss last : List S) (P Q : List (Event B)) → t ≤ u → HasReached y t ss P → HasReached (record y { starts = ss; initial = P }) u last Q → HasReached y u last Q
  reached_further t u ss last P Q l first second =
      let is = reached_states t ss P first in
      reached_on t u last P Q l (subst (λ s. HasReached y t s P) is first) (subst (λ s. HasReached (record y { starts = s; initial = P }) u last Q) is second)

  -- where nothing waits, it has reached any later time
  pub reached_to_rest : (t u : ℕ) (ss : List S) → t ≤ u → HasReached y t ss [] → HasReached y u ss []
  reached_to_rest t u ss l come = reached_further t u ss ss [] [] l come (none_comes (record y { starts = ss }) law.rules.exact u)

module _ {S B : Type 0} (y : System S B) {WellFormed : ℕ → S → Type 0} (law : IsLawful y WellFormed) where
  -- valid events more may come from outside, none of them before t
  pub reached_with_more : (t : ℕ) (ss : List S) (P more : List (Event B)) → All (MayCome y.rules t) more → HasReached y t ss P → HasReached (record y { initial = y.initial ++ more }) t ss (P ++ more)
  reached_with_more t ss P more all come =
      let o = law.rules.exact in
      let valid = All-weaker (MayCome y.rules t) (λ e. y.rules.valid e ≡ true) (λ e m. m.valid) more all in
      let early = (done_below y law t).early in
      let from : (a : Event B) → Has y.rules.order more a → t ≤ a.time = λ a h. (each_of_all o (MayCome y.rules t) more all a h).from in
      let mid = midway_more y law (λ q. journal_below y t q) P more (reached_midway y law t ss P come) valid (λ q a b h k. let l = early q a h in let m = from b k in earlier_at_most law.rules a b (omega arith)) in
      subst (λ s. HasReached (record y { initial = y.initial ++ more }) t s (P ++ more)) (sym (reached_states y law t ss P come))
      (midway_reached (record y { initial = y.initial ++ more }) (more_lawful y law more valid) t (λ q. journal_below y t q) (P ++ more) mid
      (λ a h. elim (Has-append o a P more h) [ inl m ↦ reached_late y law t ss P come a m | inr m ↦ from a m ]) early)

  -- what is met on the way from what a run has reached is met on its way
  pub reached_meets : (t u : ℕ) (ss : List S) (P : List (Event B)) (test : S → Bool) → t ≤ u → HasReached y t ss P → Meets (record y { starts = ss; initial = P }) u test → Meets y u test
  reached_meets t u ss P test l come met =
      let J : ℕ → List (Event B) = λ q. journal_below y t q in
      let is = reached_states y law t ss P come in
      let z = record y { starts = states_by y J; initial = P } in
      let met' : Meets z u test = subst (λ s. Meets (record y { starts = s; initial = P }) u test) is met in
      let p = met'.process in
      let from = made_of 0 p (λ q s. state_after (y.rules.step q) s (J q)) y.starts met'.start met'.starts_there in
      let start_is : met'.start ≡ state_after (y.rules.step p) from.0 (J p) = from.2 ∙ ap (λ n. state_after (y.rules.step n) from.0 (J n)) (zero-add p) in
      let early = (done_below y law t).early in
      let follows = rest_follows_at y law J P (reached_midway y law t ss P come) u (λ q a h. let m = early q a h in omega arith) p in
      record {
        process = p;
        start = from.0;
        done = J p ++ met'.done;
        next = met'.next;
        rest = met'.rest;
        starts_there = from.1;
        on_the_way = sym follows ∙ ap (λ l. J p ++ l) met'.on_the_way ∙ sym (append_assoc (J p) met'.done (met'.next ∷ met'.rest));
        passes = ap test (after-append (y.rules.step p) from.0 (J p) met'.done ∙ ap (λ s. state_after (y.rules.step p) s met'.done) (sym start_is)) ∙ met'.passes;
      }

  -- what is met on the way to t is met on the way to a later time
  pub meets_later : (t u : ℕ) (test : S → Bool) → t ≤ u → Meets y t test → Meets y u test
  meets_later t u test l met =
      let more = below_more y law t (u - t) met.process in
      let is : u ≡ (u - t) + t = omega arith in record {
        process = met.process;
        start = met.start;
        done = met.done;
        next = met.next;
        rest = met.rest ++ more.0;
        starts_there = met.starts_there;
        on_the_way = ap (λ n. journal_below y n met.process) is ∙ more.1 ∙ ap (λ l. l ++ more.0) met.on_the_way ∙ append_assoc met.done (met.next ∷ met.rest) more.0;
        passes = met.passes;
      }

  -- where all valid events are before t, what is executed is so by t
  pub settled_at : (t u : ℕ) → t ≤ u → ((e : Event B) → y.rules.valid e ≡ true → e.time < t) → (q : ℕ) → journal_below y u q ≡ journal_below y t q
  settled_at t u l times q =
      let done = done_below y law u in
      sym (before_all law.rules t (journal_below y u q) (done.story.up q) (λ a h. times a (done.story.fit q a h).1))
      ∙ agree_below y law (λ p. journal_below y u p) done.story u done.exact t l q

  pub meets_by : (t u : ℕ) (test : S → Bool) → ((e : Event B) → y.rules.valid e ≡ true → e.time < t) → Meets y u test → Meets y t test
  meets_by t u test times met = elim (cases_lt u t) [
    | inl l ↦ meets_later u t test (omega arith) met
    | inr l ↦ record {
      process = met.process;
      start = met.start;
      done = met.done;
      next = met.next;
      rest = met.rest;
      starts_there = met.starts_there;
      on_the_way = sym (settled_at t u (omega arith) times met.process) ∙ met.on_the_way;
      passes = met.passes;
    }
  ]

  -- something waits exactly where something waits at the moment
  pub reached_none : (t : ℕ) (ss : List S) (P : List (Event B)) → HasReached y t ss P → P ≡ [] → waiting_at y t ≡ []
  reached_none t ss P come none = none_has law.rules.exact (waiting_at y t) (λ a h. let n = come.waiting_are a in let z = ap (copies y.rules.order a) none in absurd (omega arith))

  pub reached_some : (t : ℕ) (ss : List S) (P : List (Event B)) → HasReached y t ss P → waiting_at y t ≡ [] → P ≡ []
  reached_some t ss P come none = none_has law.rules.exact P (λ a h. let n = come.waiting_are a in let z = ap (copies y.rules.order a) none in absurd (omega arith))

  sooner : (s t : ℕ) (more : List (Event B)) → s ≤ t → All (MayCome y.rules t) more → All (MayCome y.rules s) more
  sooner s t more l all = All-weaker (MayCome y.rules t) (MayCome y.rules s) (λ e m. record { valid = m.valid; from = (let k = m.from in omega arith) }) more all

  -- what is known at a moment stays so, whatever comes from then on: the states
  pub states_with_more : (s t : ℕ) (ss : List S) (more : List (Event B)) → s ≤ t → All (MayCome y.rules t) more → AreStatesAt y s ss → AreStatesAt (record y { initial = y.initial ++ more }) s ss
  states_with_more s t ss more l all at = (reached_with_more s ss (waiting_at y s) more (sooner s t more l all) (record { states_are = at; waiting_are = λ e. refl })).states_are

  -- and that something waits
  pub waits_with_more : (s t : ℕ) (more : List (Event B)) → s ≤ t → All (MayCome y.rules t) more → waiting_at y s ≢ [] → waiting_at (record y { initial = y.initial ++ more }) s ≢ []
  waits_with_more s t more l all some none =
      let o = law.rules.exact in
      let come = reached_with_more s (states_by y (λ q. journal_below y s q)) (waiting_at y s) more (sooner s t more l all) (record { states_are = states_at y law s; waiting_are = λ e. refl }) in
      some (none_has o (waiting_at y s) (λ a h. let n = come.waiting_are a in let z = ap (copies y.rules.order a) none in let k = copies-append o a (waiting_at y s) more in absurd (omega arith)))

  -- an initial event that is not before a moment waits then
  pub initial_waits : (t : ℕ) (e : Event B) → Has y.rules.order y.initial e → t ≤ e.time → waiting_at y t ≢ []
  initial_waits t e h l none =
      let J : ℕ → List (Event B) = λ p. journal_below y t p in
      let sent = flatten (map_from 0 (λ p s. sends_of (y.rules.step p) s (J p)) y.starts) in
      let all = waits y law t e ∙ from_yes t e.time (copies y.rules.order e (all_sent y J)) l ∙ copies-append law.rules.exact e y.initial sent in
      let z = ap (copies y.rules.order e) none in
      absurd (omega (arith, all, z))
