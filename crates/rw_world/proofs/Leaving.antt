-- A world in which nothing is done beyond what is committed is left off: what is there, less what is owed, is a rest.
use Rattle.std.proofs.Common.{◌≡◌, ℕ, zero, suc, ◌+◌, ◌<◌, ◌≤◌, true, List, [], ◌∷◌, ◌++◌, length, map, refl, sym, ap, ◌∙◌, subst, arith, inl, inr, Option, Some, None, append-nil}
use Rattle.std.specs.Prelude.{slice_get}
use Rattle.std.specs.List.{All}
use Rattle.std.specs.declared.cmp.Ordering.{Ordering}
use Rattle.std.proofs.lemmas.Bool.{cases_lt}
use Rattle.std.proofs.lemmas.List.{length-map}
use Rattle.std.proofs.lemmas.List.Elements.{All-nil, All-cons}
use Rattle.rw_vt.specs.declared.event.Event.{Event}
use Rattle.rw_vt.specs.declared.model.Model.{Ghosts}
use Rattle.rw_vt.specs.Order.{event_cmp, copies, Has}
use Rattle.rw_vt.specs.Letters.{messages, antis}
use Rattle.rw_vt.specs.System.{System, Setting, IsReady, system_in, state_after, map_from, flatten}
use Rattle.rw_vt.specs.Rest.{IsRestOf}
use Rattle.rw_vt.proofs.Sorting.{IsExactOrder, copies-append, absent, Has-head, Has-tail}
use Rattle.rw_vt.proofs.Bags.{none_if}
use Rattle.rw_vt.proofs.Runs.{IsLawful, earlier_at_most}
use Rattle.rw_vt.proofs.Laws.{Laws, lawful}
use Rattle.rw_vt.proofs.Complete.{IsMidway}
use Rattle.rw_vt.proofs.Rest.{states_by, rest_lawful, rest_of}
use Rattle.rw_lp.specs.Process.{ProcessState, done}
use Rattle.rw_world.specs.WorldState.{WorldState}
use Rattle.rw_world.specs.Sound.{Sound, list_at, done_of, pending_of, debts_of, held_in}
use Rattle.rw_world.proofs.Lookups.{map-places}
use Rattle.rw_world.proofs.Exact.{story}
use Rattle.rw_world.proofs.Outstanding.{quiet_collected}

-- all that is to be executed at these processes, and all that they owe
abbrev pub pendings : {S B : Type 0} → List (ProcessState S B) → List (Event B)
pendings ps = flatten (map (λ x. x.pending) ps)

abbrev pub debts : {S B : Type 0} → List (ProcessState S B) → List (Event B)
debts ps = flatten (map (λ x. x.debts) ps)

all_of_each : {E : Type 0} {cmp : E → E → Ordering} → IsExactOrder cmp → (P : E → Type 0) (xs : List E) → ((a : E) → Has cmp xs a → P a) → All P xs
all_of_each o P [] h = All-nil P
all_of_each o P (x ∷ xs) h = All-cons P x xs (h x (Has-head o x xs)) (all_of_each o P xs (λ a m. h a (Has-tail o a x xs m)))

module _ {S B : Type 0} {cmp : Event B → Event B → Ordering} (o : IsExactOrder cmp) (f : ProcessState S B → List (Event B)) (e : Event B) where
  -- where each process's events go to it, none goes to a process before the first
  none_before : (i : ℕ) (ps : List (ProcessState S B)) → ((q : ℕ) (x : ProcessState S B) → slice_get ps q ≡ Some x → Has cmp (f x) e → e.to ≡ i + q) → e.to < i → copies cmp e (flatten (map f ps)) ≡ 0
  none_before i [] here h = refl
  none_before i (x ∷ ps) here h =
      let first : copies cmp e (f x) ≡ 0 = none_if (copies cmp e (f x)) (λ k. let at : e.to ≡ i + 0 = here zero x refl k in omega arith) in
      let rest = none_before (suc i) ps (λ q z m k. let at : e.to ≡ i + suc q = here (suc q) z m k in omega arith) (omega arith) in
      omega (arith, first, rest, copies-append o e (f x) (flatten (map f ps)))

  -- and the copies of an event stand where it goes
  joined_at : (i k : ℕ) (ps : List (ProcessState S B)) → ((q : ℕ) (x : ProcessState S B) → slice_get ps q ≡ Some x → Has cmp (f x) e → e.to ≡ i + q) → e.to ≡ i + k → copies cmp e (flatten (map f ps)) ≡ copies cmp e (list_at f (slice_get ps k))
  joined_at i k [] here h = refl
  joined_at i zero (x ∷ ps) here h =
      let rest = none_before (suc i) ps (λ q z m k. let at : e.to ≡ i + suc q = here (suc q) z m k in omega arith) (omega arith) in
      omega (arith, rest, copies-append o e (f x) (flatten (map f ps)))
  joined_at i (suc k) (x ∷ ps) here h =
      let first : copies cmp e (f x) ≡ 0 = none_if (copies cmp e (f x)) (λ k. let at : e.to ≡ i + 0 = here zero x refl k in omega arith) in
      let rest = joined_at (suc i) k ps (λ q z m k. let at : e.to ≡ i + suc q = here (suc q) z m k in omega arith) (omega arith) in
      copies-append o e (f x) (flatten (map f ps)) ∙ omega (arith, first, rest)

module _ {S B : Type 0} (y : System S B) {WellFormed : ℕ → S → Type 0} (law : IsLawful y WellFormed) (w : WorldState S B) (sound : Sound y w)
    (settled : (q : ℕ) (x : ProcessState S B) → slice_get w.processes q ≡ Some x → x.processed ≡ []) where
  early : (q : ℕ) (a : Event B) → Has y.rules.order (done_of w.processes q) a → a.time < w.collected
  early q a = go (slice_get w.processes q) refl
    where
      go : (o : Option (ProcessState S B)) → slice_get w.processes q ≡ o → Has y.rules.order (list_at done o) a → a.time < w.collected
      go None h k = absurd (omega arith)
      go (Some x) h k =
          let same : done x ≡ x.committed = ap (λ l. x.committed ++ l) (settled q x h) ∙ append-nil x.committed in
          (sound.each q x h).committed_below a (subst (λ l. Has y.rules.order l a) same k)

  pending_here : (e : Event B) → copies y.rules.order e (pendings w.processes) ≡ copies y.rules.order e (pending_of w.processes e.to)
  pending_here e = joined_at law.rules.exact (λ x. x.pending) e 0 e.to w.processes (λ q x h k. let at : e.to ≡ q = ((sound.each q x h).pending_stand e k).here in omega arith) (omega arith)

  debts_here : (e : Event B) → copies y.rules.order e (debts w.processes) ≡ copies y.rules.order e (debts_of w.processes e.to)
  debts_here e = joined_at law.rules.exact (λ x. x.debts) e 0 e.to w.processes (λ q x h k. let at : e.to ≡ q = ((sound.each q x h).debts_stand e k).here in omega arith) (omega arith)

  pending_valid : (q : ℕ) (e : Event B) → Has y.rules.order (pending_of w.processes q) e → y.rules.valid e ≡ true
  pending_valid q e = go (slice_get w.processes q) refl
    where
      go : (o : Option (ProcessState S B)) → slice_get w.processes q ≡ o → Has y.rules.order (list_at (λ x. x.pending) o) e → y.rules.valid e ≡ true
      go None h k = absurd (omega arith)
      go (Some x) h k = ((sound.each q x h).pending_stand e k).valid

  states_are : states_by y (done_of w.processes) ≡ map (λ x. x.state) w.processes
  states_are = sym (
      map-places (λ x. x.start) (λ x. x.state) (λ q s. state_after (y.rules.step q) s (done_of w.processes q)) 0 w.processes (λ i j x h q. state_is j x (at i j x h q))
      ∙ ap (map_from 0 (λ q s. state_after (y.rules.step q) s (done_of w.processes q))) sound.starts
      )
    where
      at : (i j : ℕ) (x : ProcessState S B) → slice_get w.processes i ≡ Some x → j ≡ 0 + i → slice_get w.processes j ≡ Some x
      at i j x h q = let e : j ≡ i = omega arith in ap (slice_get w.processes) e ∙ h

      state_is : (q : ℕ) (x : ProcessState S B) → slice_get w.processes q ≡ Some x → x.state ≡ state_after (y.rules.step q) x.start (done_of w.processes q)
      state_is q x h = (sound.each q x h).state ∙ ap (λ o. state_after (y.rules.step q) x.start (list_at done o)) (sym h)

  module _ (there owed : List (Event B))
      (there_is : (e : Event B) → copies y.rules.order e there ≡ copies y.rules.order e (pendings w.processes) + messages y.rules.order e w.letters)
      (owed_is : (e : Event B) → copies y.rules.order e owed ≡ copies y.rules.order e (debts w.processes) + copies y.rules.order e (held_in w.processes) + antis y.rules.order e w.letters) where
    owed_below : (e : Event B) → copies y.rules.order e owed ≤ copies y.rules.order e there
    owed_below e = elim (cases_lt e.time w.collected) [
      | inl k ↦
          let quiet = quiet_collected y law w sound in
          let no_debt : copies y.rules.order e (debts_of w.processes e.to) ≡ 0 = none_if (copies y.rules.order e (debts_of w.processes e.to)) (λ h. let late = quiet.debts e.to e h in absurd (omega arith)) in
          let no_held : copies y.rules.order e (held_in w.processes) ≡ 0 = none_if (copies y.rules.order e (held_in w.processes)) (λ h. let late = quiet.held e h in absurd (omega arith)) in
          let no_anti : antis y.rules.order e w.letters ≡ 0 = none_if (antis y.rules.order e w.letters) (λ h. let late = quiet.letters e (omega arith) in absurd (omega arith)) in
          omega (arith, owed_is e, debts_here e, no_debt, no_held, no_anti)
      | inr k ↦
          let none = absent law.rules.exact e (done_of w.processes e.to) (λ m. let before = early e.to e m in absurd (omega arith)) in
          omega (arith, owed_is e, there_is e, debts_here e, pending_here e, none, sound.balance e)
    ]

    module _ (left : List (Event B)) (left_is : (e : Event B) → copies y.rules.order e left + copies y.rules.order e owed ≡ copies y.rules.order e there) where
      there_when_left : (e : Event B) → Has y.rules.order left e → 0 < copies y.rules.order e (pending_of w.processes e.to) + messages y.rules.order e w.letters
      there_when_left e h = omega (arith, left_is e, there_is e, pending_here e)

      left_valid : (e : Event B) → Has y.rules.order left e → y.rules.valid e ≡ true
      left_valid e h = elim (cases_lt 0 (copies y.rules.order e (pending_of w.processes e.to))) [
        | inl k ↦ pending_valid e.to e k
        | inr k ↦ sound.letters.valid e (let some = there_when_left e h in omega arith)
      ]

      left_from : (e : Event B) → Has y.rules.order left e → w.collected ≤ e.time
      left_from e h = elim (cases_lt 0 (copies y.rules.order e (pending_of w.processes e.to))) [
        | inl k ↦ (quiet_collected y law w sound).pending e.to e k
        | inr k ↦ sound.letters.from e (let some = there_when_left e h in omega arith)
      ]

      midway : IsMidway y (done_of w.processes) left
      midway = record {
        story = story y law w sound;
        sound = left_valid;
        balance = λ e. omega (arith, sound.balance e, left_is e, there_is e, owed_is e, pending_here e, debts_here e);
        ahead = λ p a b h k. let before = early p a h in let after = left_from b k in earlier_at_most law.rules a b (omega arith);
      }

      rest_is : IsRestOf y w.collected (map (λ x. x.state) w.processes) left
      rest_is = subst (λ ss. IsRestOf y w.collected ss left) states_are (rest_of y law w.collected (done_of w.processes) left midway early)

      well_formed : (p : ℕ) (s : S) → slice_get (map (λ x. x.state) w.processes) p ≡ Some s → WellFormed p s
      well_formed p s h = (rest_lawful y law (done_of w.processes) left midway).starts p s (ap (λ ss. slice_get ss p) states_are ∙ h)

      all_valid : All (λ e. y.rules.valid e ≡ true) left
      all_valid = all_of_each law.rules.exact (λ e. y.rules.valid e ≡ true) left left_valid

module _ {M S B U : Type 0} {model : Ghosts M S B U} {order : B → B → Ordering} (laws : Laws model order) (k : Setting model) (w : WorldState S B) (sound : Sound (system_in order k) w)
    (settled : (q : ℕ) (x : ProcessState S B) → slice_get w.processes q ≡ Some x → x.processed ≡ [])
    (there owed : List (Event B))
    (there_is : (e : Event B) → copies (event_cmp order) e there ≡ copies (event_cmp order) e (pendings w.processes) + messages (event_cmp order) e w.letters)
    (owed_is : (e : Event B) → copies (event_cmp order) e owed ≡ copies (event_cmp order) e (debts w.processes) + copies (event_cmp order) e (held_in w.processes) + antis (event_cmp order) e w.letters) where
  law : IsLawful (system_in order k) (model.IsWellFormed k.its_model)
  law = lawful laws k.its_model k.starts k.initial k.ready

  -- where nothing is done beyond what is committed, all that is owed is there
  pub owed_there : (e : Event B) → copies (event_cmp order) e owed ≤ copies (event_cmp order) e there
  owed_there = owed_below (system_in order k) law w sound settled there owed there_is owed_is

  -- and the states, with what is there less what is owed, are a rest, from which a run can go on
  pub leaves_rest : (left : List (Event B)) → ((e : Event B) → copies (event_cmp order) e left + copies (event_cmp order) e owed ≡ copies (event_cmp order) e there)
      → IsRestOf (system_in order k) w.collected (map (λ x. x.state) w.processes) left × IsReady model k.its_model (map (λ x. x.state) w.processes) left
  leaves_rest left left_is = (
    rest_is (system_in order k) law w sound settled there owed there_is owed_is left left_is,
    record {
      enough = length-map w.processes (λ x. x.state) ∙ sym (length-map w.processes (λ x. x.start)) ∙ ap length sound.starts ∙ k.ready.enough;
      well_formed = well_formed (system_in order k) law w sound settled there owed there_is owed_is left left_is;
      valid = all_valid (system_in order k) law w sound settled there owed there_is owed_is left left_is;
    },
  )
