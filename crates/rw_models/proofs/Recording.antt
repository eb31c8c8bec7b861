-- A run of a model that keeps records is the run of the model inside.
use Rattle.std.proofs.Common.{◌≡◌, ℕ, zero, suc, ◌+◌, Bool, ◌&&◌, ◌==◌, List, [], ◌∷◌, ◌++◌, refl, sym, ◌∙◌, ap, subst, filter, map, nat_le, Some, append-nil, append_assoc}
use Rattle.std.specs.List.{slice_get}
use Rattle.rw_vt.specs.declared.event.Event.{Event}
use Rattle.rw_vt.specs.Order.{copies, in_order}
use Rattle.rw_vt.specs.System.{Rules, System, state_after, sends_of, map_from, flatten, all_sent, journal_below, IsOutcome, Meets}
use Rattle.rw_vt.specs.Moments.{waiting_at, HasReached}
use Rattle.rw_vt.proofs.Rest.{made_alike}
use Rattle.rw_models.specs.declared.recorded.Record.{Record}
use Rattle.rw_models.specs.Recorded.{step_recorded, states_of, executed_of, new_records, KeepsRecords}

-- Lists that are made of mapped lists

pub made_over : {A C D : Type 0} (k : ℕ) (f : A → C) (g : ℕ → C → D) (xs : List A) → map_from k g (map f xs) ≡ map_from k (λ q x. g q (f x)) xs
made_over k f g [] = refl
made_over k f g (x ∷ xs) = ap (λ l. g k (f x) ∷ l) (made_over (k + 1) f g xs)

pub map_made : {A C D : Type 0} (k : ℕ) (f : ℕ → A → C) (g : C → D) (xs : List A) → map g (map_from k f xs) ≡ map_from k (λ q x. g (f q x)) xs
map_made k f g [] = refl
map_made k f g (x ∷ xs) = ap (λ l. g (f k x) ∷ l) (map_made (k + 1) f g xs)

pub made_plain : {A C : Type 0} (k : ℕ) (f : A → C) (xs : List A) → map_from k (λ _ x. f x) xs ≡ map f xs
made_plain k f [] = refl
made_plain k f (x ∷ xs) = ap (λ l. f x ∷ l) (made_plain (k + 1) f xs)

get_mapped : {A C : Type 0} (f : A → C) (xs : List A) (i : ℕ) (x : A) → slice_get xs i ≡ Some x → slice_get (map f xs) i ≡ Some (f x)
get_mapped f [] i x h = absurd (cc)
get_mapped f (y ∷ ys) zero x h = let is : y ≡ x = cc in ap (λ y. Some (f y)) is
get_mapped f (y ∷ ys) (suc i) x h = get_mapped f ys i x h

-- what stands in a mapped list is what was mapped
got_mapped : {A C : Type 0} (f : A → C) (xs : List A) (i : ℕ) (c : C) → slice_get (map f xs) i ≡ Some c → (x : A) × (slice_get xs i ≡ Some x) × (c ≡ f x)
got_mapped f [] i c h = absurd (cc)
got_mapped f (x ∷ xs) zero c h = let is : c ≡ f x = cc in (x, refl, is)
got_mapped f (x ∷ xs) (suc i) c h = got_mapped f xs i c h

-- a fact of each state in records, and of each record
pub each_of_records : {S B : Type 0} (P : ℕ → S → Type 0) (records : List (Record S B))
    → ((p : ℕ) (s : S) → slice_get (states_of records) p ≡ Some s → P p s)
    → (p : ℕ) (r : Record S B) → slice_get records p ≡ Some r → P p r.state
each_of_records P records h p r at = h p r.state (get_mapped (λ r. r.state) records p r at)

pub each_of_states : {S B : Type 0} (P : ℕ → S → Type 0) (records : List (Record S B))
    → ((p : ℕ) (r : Record S B) → slice_get records p ≡ Some r → P p r.state)
    → (p : ℕ) (s : S) → slice_get (states_of records) p ≡ Some s → P p s
each_of_states P records h p s at =
    let found = got_mapped (λ r. r.state) records p s at in
    subst (P p) (sym found.2) (h p found.0 found.1)

-- What a process does

module _ {S B : Type 0} (step : S → Event B → S × List (Event B)) where
  pub after_recorded : (r : Record S B) (es : List (Event B)) → state_after (step_recorded step) r es ≡ record { state = state_after step r.state es; executed = r.executed ++ es }
  after_recorded r [] = ap (λ l. let k : Record S B = record { state = r.state; executed = l } in k) (sym (append-nil r.executed))
  after_recorded r (e ∷ es) =
      after_recorded (record { state = (step r.state e).0; executed = r.executed ++ e ∷ [] }) es
      ∙ ap (λ l. let k : Record S B = record { state = state_after step (step r.state e).0 es; executed = l } in k) (append_assoc r.executed (e ∷ []) es)

  sends_recorded : (r : Record S B) (es : List (Event B)) → sends_of (step_recorded step) r es ≡ sends_of step r.state es
  sends_recorded r [] = refl
  sends_recorded r (e ∷ es) = ap (λ l. (step r.state e).1 ++ l) (sends_recorded (record { state = (step r.state e).0; executed = r.executed ++ e ∷ [] }) es)

-- What all do

abbrev pub recorded : {S B : Type 0} → Rules S B → (Event B → Bool) → List (Record S B) → List (Event B) → System (Record S B) B
recorded y valid records initial = record {
  rules = record { order = y.order; step = λ p. step_recorded (y.step p); valid = valid };
  starts = records;
  initial = initial;
}

abbrev pub inside : {S B : Type 0} → Rules S B → List (Record S B) → List (Event B) → System S B
inside y records initial = record { rules = y; starts = states_of records; initial = initial }

module _ {S B : Type 0} (y : Rules S B) (valid : Event B → Bool) (records : List (Record S B)) (initial : List (Event B)) where
  sent_recorded : (J L : ℕ → List (Event B)) → ((q : ℕ) → J q ≡ L q) → all_sent (recorded y valid records initial) J ≡ all_sent (inside y records initial) L
  sent_recorded J L same =
      ap (λ l. initial ++ flatten l)
      (made_alike 0 (λ p r. sends_of (step_recorded (y.step p)) r (J p)) (λ p r. sends_of (y.step p) r.state (L p)) records
      (λ p r. sends_recorded (y.step p) r (J p) ∙ ap (sends_of (y.step p) r.state) (same p))
      ∙ sym (made_over 0 (λ r. r.state) (λ p s. sends_of (y.step p) s (L p)) records))

  both : {a b c d : List (Event B)} → a ≡ b → c ≡ d → a ++ c ≡ b ++ d
  both p q = cc

  pub journals_recorded : (t q : ℕ) → journal_below (recorded y valid records initial) t q ≡ journal_below (inside y records initial) t q
  unfolding journal_below
  journals_recorded zero q = refl
  journals_recorded (suc t) q =
      let earlier : (q : ℕ) → journal_below (recorded y valid records initial) t q ≡ journal_below (inside y records initial) t q = λ q. journals_recorded t q in
      both (earlier q)
      (ap (λ l. in_order y.order (filter (λ e. (e.time == t) && (e.to == q)) l))
      (sent_recorded (λ p. journal_below (recorded y valid records initial) t p) (λ p. journal_below (inside y records initial) t p) earlier))

  -- each process's record afterwards
  after : (t q : ℕ) (r : Record S B) → state_after (step_recorded (y.step q)) r (journal_below (recorded y valid records initial) t q)
      ≡ record { state = state_after (y.step q) r.state (journal_below (inside y records initial) t q); executed = r.executed ++ journal_below (inside y records initial) t q }
  after t q r =
      after_recorded (y.step q) r (journal_below (recorded y valid records initial) t q)
      ∙ ap (λ l. let k : Record S B = record { state = state_after (y.step q) r.state l; executed = r.executed ++ l } in k) (journals_recorded t q)

  states_recorded : (t : ℕ) (after_all : List (Record S B)) → after_all ≡ map_from 0 (λ q r. state_after (step_recorded (y.step q)) r (journal_below (recorded y valid records initial) t q)) records
      → states_of after_all ≡ map_from 0 (λ q s. state_after (y.step q) s (journal_below (inside y records initial) t q)) (states_of records)
  states_recorded t after_all is =
      ap (map (λ r. r.state)) is
      ∙ map_made 0 (λ q r. state_after (step_recorded (y.step q)) r (journal_below (recorded y valid records initial) t q)) (λ r. r.state) records
      ∙ made_alike 0 (λ q r. (state_after (step_recorded (y.step q)) r (journal_below (recorded y valid records initial) t q)).state) (λ q r. state_after (y.step q) r.state (journal_below (inside y records initial) t q)) records
      (λ q r. ap (λ (k : Record S B). k.state) (after t q r))
      ∙ sym (made_over 0 (λ r. r.state) (λ q s. state_after (y.step q) s (journal_below (inside y records initial) t q)) records)

  executed_recorded : (t : ℕ) (after_all : List (Record S B)) → after_all ≡ map_from 0 (λ q r. state_after (step_recorded (y.step q)) r (journal_below (recorded y valid records initial) t q)) records
      → executed_of after_all ≡ map_from 0 (λ q r. r.executed ++ journal_below (inside y records initial) t q) records
  executed_recorded t after_all is =
      ap (map (λ r. r.executed)) is
      ∙ map_made 0 (λ q r. state_after (step_recorded (y.step q)) r (journal_below (recorded y valid records initial) t q)) (λ r. r.executed) records
      ∙ made_alike 0 (λ q r. (state_after (step_recorded (y.step q)) r (journal_below (recorded y valid records initial) t q)).executed) (λ q r. r.executed ++ journal_below (inside y records initial) t q) records
      (λ q r. ap (λ (k : Record S B). k.executed) (after t q r))

  fresh_recorded : (states : List S) → records ≡ new_records states → (t : ℕ) (journals : List (List (Event B))) (after_all : List (Record S B))
      → IsOutcome (recorded y valid records initial) t journals after_all → executed_of after_all ≡ journals
  fresh_recorded states are t journals after_all h =
      executed_recorded t after_all h.states_are
      ∙ subst (λ rs. map_from 0 (λ q r. r.executed ++ there q) rs ≡ map_from 0 (λ q _. here q) rs) (sym are) all_new
      ∙ sym h.journals_are
    where
      there : ℕ → List (Event B)
      there q = journal_below (inside y records initial) t q

      here : ℕ → List (Event B)
      here q = journal_below (recorded y valid records initial) t q

      all_new : map_from 0 (λ q r. r.executed ++ there q) (new_records {B = B} states) ≡ map_from 0 (λ q _. here q) (new_records {B = B} states)
      all_new =
          made_over 0 (λ s. let r : Record S B = record { state = s; executed = [] } in r) (λ q r. r.executed ++ there q) states
          ∙ made_alike 0 (λ q _. there q) (λ q _. here q) states (λ q _. sym (journals_recorded t q))
          ∙ sym (made_over 0 (λ s. let r : Record S B = record { state = s; executed = [] } in r) (λ q _. here q) states)

  outcome_recorded : (t : ℕ) (journals : List (List (Event B))) (after_all : List (Record S B)) → IsOutcome (recorded y valid records initial) t journals after_all → IsOutcome (inside y records initial) t journals (states_of after_all)
  outcome_recorded t journals after_all h = record {
    journals_are = h.journals_are
        ∙ made_alike 0 (λ q _. journal_below (recorded y valid records initial) t q) (λ q _. journal_below (inside y records initial) t q) records (λ q _. journals_recorded t q)
        ∙ sym (made_over 0 (λ r. r.state) (λ q _. journal_below (inside y records initial) t q) records);
    states_are = states_recorded t after_all h.states_are;
  }

  waiting_recorded : (t : ℕ) → waiting_at (recorded y valid records initial) t ≡ waiting_at (inside y records initial) t
  waiting_recorded t = ap (filter (λ e. nat_le t e.time)) (sent_recorded (λ p. journal_below (recorded y valid records initial) t p) (λ p. journal_below (inside y records initial) t p) (λ q. journals_recorded t q))

  reached_recorded : (t : ℕ) (after_all : List (Record S B)) (waiting : List (Event B)) → HasReached (recorded y valid records initial) t after_all waiting → HasReached (inside y records initial) t (states_of after_all) waiting
  reached_recorded t after_all waiting h = record {
    states_are = (h.states_are.0, outcome_recorded t h.states_are.0 after_all h.states_are.1);
    waiting_are = λ e. h.waiting_are e ∙ ap (copies y.order e) (waiting_recorded t);
  }

  meets_recorded : (t : ℕ) (test : S → Bool) → Meets (recorded y valid records initial) t (λ r. test r.state) → Meets (inside y records initial) t test
  meets_recorded t test met = record {
    process = met.process;
    start = met.start.state;
    done = met.done;
    next = met.next;
    rest = met.rest;
    starts_there = get_mapped (λ r. r.state) records met.process met.start met.starts_there;
    on_the_way = sym (journals_recorded t met.process) ∙ met.on_the_way;
    passes = ap (λ (r : Record S B). test r.state) (sym (after_recorded (y.step met.process) met.start met.done)) ∙ met.passes;
  }

  pub keeps_records : KeepsRecords (recorded y valid records initial) (inside y records initial)
  keeps_records = record {
    journals = journals_recorded;
    outcome = outcome_recorded;
    executed = λ t journals after_all h. executed_recorded t after_all h.states_are;
    fresh = fresh_recorded;
    reached = reached_recorded;
    meets = meets_recorded;
  }
