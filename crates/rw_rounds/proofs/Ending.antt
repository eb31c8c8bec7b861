-- Where all is collected, the committed events and the states are what executing all events in order leaves.
use Rattle.std.proofs.Common.{◌≡◌, ℕ, zero, suc, ◌+◌, ◌^◌, ◌≤◌, Bool, List, [], ◌∷◌, ◌++◌, map, refl, sym, ap, ◌∙◌, arith, append-nil, Some}
use Rattle.std.specs.Prelude.{filter, nat_lt, slice_get}
use Rattle.std.specs.declared.cmp.Ordering.{Ordering}
use Rattle.std.proofs.lemmas.Bool.{lt-ltb, le-ltb}
use Rattle.rw_vt.specs.declared.event.Event.{Event}
use Rattle.rw_vt.specs.declared.model.Model.{Ghosts}
use Rattle.rw_vt.specs.Order.{Each}
use Rattle.rw_vt.specs.System.{System, system, state_after, journal_below, map_from, IsOutcome, IsReady}
use Rattle.rw_vt.proofs.Bags.{Each-append, filter_all, filter_none}
use Rattle.rw_vt.proofs.Runs.{IsLawful}
use Rattle.rw_vt.proofs.Laws.{Laws, lawful}
use Rattle.rw_lp.specs.Process.{ProcessState, done}
use Rattle.rw_lp.specs.Sound.{Stands, SoundAt}
use Rattle.rw_world.specs.WorldState.{WorldState, floor}
use Rattle.rw_world.specs.Sound.{Sound, IsInOrder, list_at}
use Rattle.rw_world.specs.Calls.{Simulation, system_of}

-- a list that is at each place what g says of the place and the start there
by_starts : {X S C : Type 0} (start : X → S) (f : X → C) (g : ℕ → S → C) (k : ℕ) (xs : List X) → ((i j : ℕ) (x : X) → slice_get xs i ≡ Some x → j ≡ k + i → f x ≡ g j (start x)) → map f xs ≡ map_from k g (map start xs)
by_starts start f g k [] h = refl
by_starts {X = X} start f g k (x ∷ xs) h =
    let first : f x ≡ g k (start x) = h zero k x refl (omega arith) in
    let rest = by_starts start f g (k + 1) xs (λ i j a m q. h (suc i) j a m (omega arith)) in
    ap (λ a. a ∷ map f xs) first ∙ ap (λ l. g k (start x) ∷ l) rest

module _ {S B : Type 0} (y : System S B) {WellFormed : ℕ → S → Type 0} (law : IsLawful y WellFormed) (w : WorldState S B) (sound : Sound y w) (ordered : IsInOrder y w) (floored : 2 ^ 40 ≤ floor w) (collected : 2 ^ 40 ≤ w.collected) where
  -- no event is at the end or after, and none before it is left uncommitted
  all_committed : (q : ℕ) (x : ProcessState S B) → SoundAt y.rules w.collected q x → x.committed ≡ done x
  all_committed q x at =
      let p : Event B → Bool = λ e. nat_lt e.time (2 ^ 40) in
      let all : filter p x.processed ≡ x.processed = filter_all law.rules.exact p x.processed (λ e k. lt-ltb e.time (2 ^ 40) (law.inside e (at.processed_stand e k).valid).time) in
      let none : filter p x.processed ≡ [] = filter_none law.rules.exact p x.processed (λ e k. (let from : w.collected ≤ e.time = at.processed_from e k in le-ltb e.time (2 ^ 40) (omega arith))) in
      sym (append-nil x.committed) ∙ ap (λ l. x.committed ++ l) (sym none ∙ all)

  -- what is done is done in order
  done_in_order : (q : ℕ) (x : ProcessState S B) → slice_get w.processes q ≡ Some x → done x ≡ journal_below y (2 ^ 40) q
  done_in_order q x there =
      let at : SoundAt y.rules w.collected q x = sound.each q x there in
      let p : Event B → Bool = λ e. nat_lt e.time (2 ^ 40) in
      let stands : Each y.rules.order (Stands y.rules q) (done x) = Each-append law.rules.exact (Stands y.rules q) x.committed x.processed at.committed_stand at.processed_stand in
      let all : filter p (done x) ≡ done x = filter_all law.rules.exact p (done x) (λ e k. lt-ltb e.time (2 ^ 40) (law.inside e (stands e k).valid).time) in
      sym all ∙ ap (λ o. filter p (list_at done o)) (sym there) ∙ ordered.before_floor (2 ^ 40) q floored

  committed_in_order : (q : ℕ) (x : ProcessState S B) → slice_get w.processes q ≡ Some x → x.committed ≡ journal_below y (2 ^ 40) q
  committed_in_order q x there = all_committed q x (sound.each q x there) ∙ done_in_order q x there

  state_in_order : (q : ℕ) (x : ProcessState S B) → slice_get w.processes q ≡ Some x → x.state ≡ state_after (y.rules.step q) x.start (journal_below y (2 ^ 40) q)
  state_in_order q x there = (sound.each q x there).state ∙ ap (λ es. state_after (y.rules.step q) x.start es) (done_in_order q x there)

  at_place : (i j : ℕ) (x : ProcessState S B) → slice_get w.processes i ≡ Some x → j ≡ 0 + i → slice_get w.processes j ≡ Some x
  at_place i j x there q = let same : j ≡ i = omega arith in ap (slice_get w.processes) same ∙ there

  pub ended : IsOutcome y (2 ^ 40) (map (λ x. x.committed) w.processes) (map (λ x. x.state) w.processes)
  ended = record {
    journals_are = by_starts (λ x. x.start) (λ x. x.committed) (λ q _. journal_below y (2 ^ 40) q) 0 w.processes (λ i j x there q. committed_in_order j x (at_place i j x there q)) ∙ ap (map_from 0 (λ q _. journal_below y (2 ^ 40) q)) sound.starts;
    states_are = by_starts (λ x. x.start) (λ x. x.state) (λ q s. state_after (y.rules.step q) s (journal_below y (2 ^ 40) q)) 0 w.processes (λ i j x there q. state_in_order j x (at_place i j x there q)) ∙ ap (map_from 0 (λ q s. state_after (y.rules.step q) s (journal_below y (2 ^ 40) q))) sound.starts;
  }

-- a system is that of its model, its starts and its initial events
pub same_system : {M S B U : Type 0} (model : Ghosts M S B U) (order : B → B → Ordering) (v w : Simulation M S B) → v.model ≡ w.model → v.starts ≡ w.starts → v.initial ≡ w.initial → system_of model order v ≡ system_of model order w
same_system model order v w same starts initial =
    ap (λ m. system model order m v.starts v.initial) same
    ∙ ap (λ s. system model order w.model s v.initial) starts
    ∙ ap (system model order w.model w.starts) initial

module _ {M S B U : Type 0} {model : Ghosts M S B U} {order : B → B → Ordering} where
  -- the same for a world of a lawful model
  pub ending : Laws model order → (v : Simulation M S B) → IsReady model v.model v.starts v.initial → Sound (system_of model order v) v.world → IsInOrder (system_of model order v) v.world → 2 ^ 40 ≤ floor v.world → 2 ^ 40 ≤ v.world.collected → IsOutcome (system_of model order v) (2 ^ 40) (map (λ x. x.committed) v.world.processes) (map (λ x. x.state) v.world.processes)
  ending laws v ready =
      let law : IsLawful (system_of model order v) (model.IsWellFormed v.model) = lawful laws v.model v.starts v.initial ready in
      ended (system_of model order v) law v.world
