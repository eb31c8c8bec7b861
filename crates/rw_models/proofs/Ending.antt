-- A run of a model with an end time is the run of the model inside, up to the end.
use Rattle.std.proofs.Common.{◌≡◌, ℕ, zero, suc, ◌+◌, ◌-◌, ◌<◌, ◌≤◌, Bool, true, false, cond, ◌&&◌, ◌==◌, List, [], ◌∷◌, ◌++◌, refl, sym, ◌∙◌, ap, subst, arith, filter, inl, inr, nat_lt, nat_le, min, append-nil}
use Rattle.std.specs.Prelude.{◌↔◌}
use Rattle.std.proofs.lemmas.Bool.{cases_lt}
use Rattle.std.proofs.lemmas.Bool.Decides.{nat_tests}
use Rattle.std.proofs.lemmas.List.Elements.{All-weaker, filter-append}
use Rattle.std.specs.List.{All}
use Rattle.rw_vt.specs.Limits.{end_of_time}
use Rattle.rw_vt.specs.declared.event.Event.{Event}
use Rattle.rw_vt.specs.Order.{in_order}
use Rattle.rw_vt.specs.System.{System, state_after, sends_of, map_from, flatten, all_sent, slice, journal_below, IsOutcome, Meets}
use Rattle.rw_vt.specs.Rest.{AreLastStates}
use Rattle.rw_vt.specs.Moments.{AreStatesAt, waiting_at}
use Rattle.rw_vt.proofs.Rest.{made_alike}
use Rattle.rw_models.specs.Until.{events_before, step_until, EndsAt}
use Rattle.rw_models.specs.Laws.{future_before}

-- Lists of events before the end

module _ {B : Type 0} (end : ℕ) where
  -- a test that passes only what is before the end leaves the same of what is before the end
  kept_alike : (p : Event B → Bool) → ((e : Event B) → p e ≡ true → nat_lt e.time end ≡ true) → (xs : List (Event B))
      → filter p (events_before end xs) ≡ filter p xs
  kept_alike p h [] = refl
  kept_alike p h (x ∷ xs) = go (p x) (nat_lt x.time end) refl refl (kept_alike p h xs)
    where
      go : (a b : Bool) → p x ≡ a → nat_lt x.time end ≡ b → filter p (events_before end xs) ≡ filter p xs
          → filter p (cond b (x ∷ events_before end xs) (events_before end xs)) ≡ cond a (x ∷ filter p xs) (filter p xs)
      go true true is late q = rw (is, q) refl
      go true false is late q = let k = h x is in cc
      go false true is late q = rw (is, q) refl
      go false false is late q = q

  -- one that passes nothing of that leaves none of it
  kept_none : (p : Event B → Bool) → ((e : Event B) → p e ≡ true → nat_lt e.time end ≡ false) → (xs : List (Event B))
      → filter p (events_before end xs) ≡ []
  kept_none p h [] = refl
  kept_none p h (x ∷ xs) = go (p x) (nat_lt x.time end) refl refl (kept_none p h xs)
    where
      go : (a b : Bool) → p x ≡ a → nat_lt x.time end ≡ b → filter p (events_before end xs) ≡ []
          → filter p (cond b (x ∷ events_before end xs) (events_before end xs)) ≡ []
      go true true is late q = let k = h x is in cc
      go true false is late q = q
      go false true is late q = rw (is, q) refl
      go false false is late q = q

  -- two tests may change places
  kept_swapped : (p : Event B → Bool) (xs : List (Event B)) → filter p (events_before end xs) ≡ events_before end (filter p xs)
  kept_swapped p [] = refl
  kept_swapped p (x ∷ xs) = go (p x) (nat_lt x.time end) refl refl (kept_swapped p xs)
    where
      go : (a b : Bool) → p x ≡ a → nat_lt x.time end ≡ b → filter p (events_before end xs) ≡ events_before end (filter p xs)
          → filter p (cond b (x ∷ events_before end xs) (events_before end xs)) ≡ events_before end (cond a (x ∷ filter p xs) (filter p xs))
      go true true is late q = rw (is, late, q) refl
      go true false is late q = rw late q
      go false true is late q = rw is q
      go false false is late q = q

module _ {A B : Type 0} (end : ℕ) where
  joined_before : (k : ℕ) (f g : ℕ → A → List (Event B)) (xs : List A) → ((q : ℕ) (x : A) → g q x ≡ events_before end (f q x))
      → flatten (map_from k g xs) ≡ events_before end (flatten (map_from k f xs))
  joined_before k f g [] h = refl
  joined_before k f g (x ∷ xs) h =
      both (h k x) (joined_before (k + 1) f g xs h)
      ∙ sym (filter-append (λ e. nat_lt e.time end) (f k x) (flatten (map_from (k + 1) f xs)))
    where
      both : {a b c d : List (Event B)} → a ≡ b → c ≡ d → a ++ c ≡ b ++ d
      both p q = cc

-- where each event is valid, each that is before the end is valid for the model with that end
pub ready_before : {B : Type 0} (valid : Event B → Bool) (end : ℕ) (es : List (Event B)) → All (λ e. valid e ≡ true) es → All (λ e. (valid e && nat_lt e.time end) ≡ true) (events_before end es)
ready_before valid end es h =
    All-weaker (λ e. Unit {0} × ((valid e && nat_lt e.time end) ≡ true)) (λ e. (valid e && nat_lt e.time end) ≡ true) (λ e k. k.1) (events_before end es)
    (future_before (λ _. Unit {0}) valid end es (All-weaker (λ e. valid e ≡ true) (λ e. Unit {0} × (valid e ≡ true)) (λ e k. (tt, k)) es h))

-- What a process does

module _ {S B : Type 0} (end : ℕ) (step : S → Event B → S × List (Event B)) where
  after_until : (s : S) (es : List (Event B)) → state_after (step_until end step) s es ≡ state_after step s es
  after_until s [] = refl
  after_until s (e ∷ es) = after_until (step s e).0 es

  sends_until : (s : S) (es : List (Event B)) → sends_of (step_until end step) s es ≡ events_before end (sends_of step s es)
  sends_until s [] = refl
  sends_until s (e ∷ es) =
      ap (λ l. events_before end (step s e).1 ++ l) (sends_until (step s e).0 es)
      ∙ sym (filter-append (λ e. nat_lt e.time end) (step s e).1 (sends_of step (step s e).0 es))

-- What all do

-- the system whose steps send, and whose initial events are, only what is before the end
abbrev pub until : {S B : Type 0} → ℕ → System S B → (Event B → Bool) → System S B
until end y valid = record {
  rules = record { order = y.rules.order; step = λ p. step_until end (y.rules.step p); valid = valid };
  starts = y.starts;
  initial = events_before end y.initial;
}

at_before : (a : ℕ) (t end : ℕ) → t < end → (a == t) ≡ true → nat_lt a end ≡ true
at_before a t end l h = grind (arith, nat_tests)

at_after : (a : ℕ) (t end : ℕ) → end ≤ t → (a == t) ≡ true → nat_lt a end ≡ false
at_after a t end l h = grind (arith, nat_tests)

first_of : (a b : Bool) → (a && b) ≡ true → a ≡ true
first_of true b h = refl
first_of false b h = h

module _ {S B : Type 0} (end : ℕ) (y : System S B) (valid : Event B → Bool) where
  -- journals that are alike send alike, but for what is not before the end
  sent_until : (J L : ℕ → List (Event B)) → ((q : ℕ) → J q ≡ L q) → all_sent (until end y valid) J ≡ events_before end (all_sent y L)
  sent_until J L same =
      ap (λ l. events_before end y.initial ++ l)
      (joined_before end 0 (λ p s. sends_of (y.rules.step p) s (L p)) (λ p s. sends_of (step_until end (y.rules.step p)) s (J p)) y.starts
      (λ p s. sends_until end (y.rules.step p) s (J p) ∙ ap (λ l. events_before end (sends_of (y.rules.step p) s l)) (same p)))
      ∙ sym (filter-append (λ e. nat_lt e.time end) y.initial (flatten (map_from 0 (λ p s. sends_of (y.rules.step p) s (L p)) y.starts)))

  slice_until : (J L : ℕ → List (Event B)) → ((q : ℕ) → J q ≡ L q) → (t q : ℕ) → t < end → slice (until end y valid) (all_sent (until end y valid) J) t q ≡ slice y (all_sent y L) t q
  slice_until J L same t q l =
      ap (in_order y.rules.order)
      (ap (filter (λ e. (e.time == t) && (e.to == q))) (sent_until J L same)
      ∙ kept_alike end (λ e. (e.time == t) && (e.to == q)) (λ e h. at_before e.time t end l (first_of (e.time == t) (e.to == q) h)) (all_sent y L))

  slice_after : (J : ℕ → List (Event B)) (t q : ℕ) → end ≤ t → slice (until end y valid) (all_sent (until end y valid) J) t q ≡ []
  slice_after J t q l =
      ap (in_order y.rules.order)
      (ap (filter (λ e. (e.time == t) && (e.to == q))) (sent_until J J (λ q. refl))
      ∙ kept_none end (λ e. (e.time == t) && (e.to == q)) (λ e h. at_after e.time t end l (first_of (e.time == t) (e.to == q) h)) (all_sent y J))

  both : {a b c d : List (Event B)} → a ≡ b → c ≡ d → a ++ c ≡ b ++ d
  both p q = cc

  journals_until : (t : ℕ) → t ≤ end → (q : ℕ) → journal_below (until end y valid) t q ≡ journal_below y t q
  unfolding journal_below
  journals_until zero l q = refl
  journals_until (suc t) l q =
      let earlier : (q : ℕ) → journal_below (until end y valid) t q ≡ journal_below y t q = λ q. journals_until t (omega arith) q in
      both (earlier q) (slice_until (λ p. journal_below (until end y valid) t p) (λ p. journal_below y t p) earlier t q (omega arith))

  suc_plus : (k t : ℕ) → suc k + t ≡ suc (k + t)
  suc_plus k t = omega arith

  journals_after : (k q : ℕ) → journal_below (until end y valid) (k + end) q ≡ journal_below (until end y valid) end q
  unfolding journal_below
  journals_after zero q = let is : 0 + end ≡ end = omega arith in ap (λ n. journal_below (until end y valid) n q) is
  journals_after (suc k) q = rw (suc_plus k end) (both (journals_after k q) (slice_after (λ p. journal_below (until end y valid) (k + end) p) (k + end) q (omega arith)) ∙ append-nil (journal_below (until end y valid) end q))

  pub journals_min : (t q : ℕ) → journal_below (until end y valid) t q ≡ journal_below y (min t end) q
  journals_min t q = elim (cases_lt t end) [
    | inl l ↦
        let is : t ≡ min t end = omega arith in
        journals_until t (omega arith) q ∙ ap (λ n. journal_below y n q) is
    | inr l ↦
        let at : t ≡ (t - end) + end = omega arith in
        let is : end ≡ min t end = omega arith in
        ap (λ n. journal_below (until end y valid) n q) at ∙ journals_after (t - end) q ∙ journals_until end (omega arith) q ∙ ap (λ n. journal_below y n q) is
  ]

  journals_alike : (t : ℕ) → map_from 0 (λ q _. journal_below (until end y valid) t q) y.starts ≡ map_from 0 (λ q _. journal_below y (min t end) q) y.starts
  journals_alike t = made_alike 0 (λ q _. journal_below (until end y valid) t q) (λ q _. journal_below y (min t end) q) y.starts (λ q _. journals_min t q)

  after_alike : (t q : ℕ) (s : S) → state_after (step_until end (y.rules.step q)) s (journal_below (until end y valid) t q) ≡ state_after (y.rules.step q) s (journal_below y (min t end) q)
  after_alike t q s = after_until end (y.rules.step q) s (journal_below (until end y valid) t q) ∙ ap (state_after (y.rules.step q) s) (journals_min t q)

  states_alike : (t : ℕ) → map_from 0 (λ q s. state_after (step_until end (y.rules.step q)) s (journal_below (until end y valid) t q)) y.starts ≡ map_from 0 (λ q s. state_after (y.rules.step q) s (journal_below y (min t end) q)) y.starts
  states_alike t = made_alike 0 (λ q s. state_after (step_until end (y.rules.step q)) s (journal_below (until end y valid) t q)) (λ q s. state_after (y.rules.step q) s (journal_below y (min t end) q)) y.starts (λ q s. after_alike t q s)

  there : (t : ℕ) (journals : List (List (Event B))) (states : List S) → IsOutcome (until end y valid) t journals states → IsOutcome y (min t end) journals states
  there t journals states h = record { journals_are = h.journals_are ∙ journals_alike t; states_are = h.states_are ∙ states_alike t }

  back : (t : ℕ) (journals : List (List (Event B))) (states : List S) → IsOutcome y (min t end) journals states → IsOutcome (until end y valid) t journals states
  back t journals states h = record { journals_are = h.journals_are ∙ sym (journals_alike t); states_are = h.states_are ∙ sym (states_alike t) }

  waiting_until : (t : ℕ) → t ≤ end → waiting_at (until end y valid) t ≡ events_before end (waiting_at y t)
  waiting_until t l =
      ap (filter (λ e. nat_le t e.time)) (sent_until (λ p. journal_below (until end y valid) t p) (λ p. journal_below y t p) (λ q. journals_until t l q))
      ∙ kept_swapped end (λ e. nat_le t e.time) (all_sent y (λ p. journal_below y t p))

  meets_until : (t : ℕ) (test : S → Bool) → Meets (until end y valid) t test → Meets y (min t end) test
  meets_until t test met = record {
    process = met.process;
    start = met.start;
    done = met.done;
    next = met.next;
    rest = met.rest;
    starts_there = met.starts_there;
    on_the_way = sym (journals_min t met.process) ∙ met.on_the_way;
    passes = ap test (sym (after_until end (y.rules.step met.process) met.start met.done)) ∙ met.passes;
  }

  last_until : end ≤ end_of_time → (states : List S) → AreLastStates (until end y valid) states ↔ AreStatesAt y end states
  last_until l states =
      let is : min end_of_time end ≡ end = at_end end_of_time l in (
        λ h. (h.0, subst (λ n. IsOutcome y n h.0 states) is (there end_of_time h.0 states h.1)),
        λ h. (h.0, back end_of_time h.0 states (subst (λ n. IsOutcome y n h.0 states) (sym is) h.1)),
      )
    where
      at_end : (t : ℕ) → end ≤ t → min t end ≡ end
      at_end t m = omega arith

  pub ends_at : EndsAt end (until end y valid) y
  ends_at = record {
    journals = journals_min;
    outcome = λ t journals states. (there t journals states, back t journals states);
    waiting = waiting_until;
    meets = meets_until;
    executed = λ t. ap (λ l. in_order y.rules.order (flatten l)) (journals_alike t);
    last = last_until;
  }
