-- What a sound world has committed, and what it is when finished.
use Rattle.std.proofs.Common.{◌≡◌, ℕ, ◌^◌, ◌+◌, Bool, true, [], ◌++◌, map, sym, ap, ◌∙◌, arith, append-nil, Some}
use Rattle.std.specs.Prelude.{filter, nat_lt, slice_get}
use Rattle.std.proofs.lemmas.Bool.{lt-ltb, le-ltb}
use Rattle.std.specs.Option.{option_map}
use Rattle.std.proofs.lemmas.Option.{slice_get-map}
use Rattle.std.proofs.lemmas.List.Elements.{filter-append}
use Rattle.rw_vt.specs.declared.event.Event.{Event}
use Rattle.rw_vt.specs.Order.{Each}
use Rattle.rw_vt.specs.System.{System, state_after, journal_below, map_from, IsOutcome}
use Rattle.rw_vt.proofs.Bags.{Each-append, filter_all, filter_none}
use Rattle.rw_vt.proofs.Runs.{IsLawful}
use Rattle.rw_lp.specs.Process.{ProcessState, done}
use Rattle.rw_lp.specs.Sound.{Stands, SoundAt}
use Rattle.rw_world.specs.WorldState.{WorldState, is_finished}
use Rattle.rw_world.specs.Sound.{Sound, IsInOrder, list_at}
use Rattle.rw_world.proofs.Lookups.{map-places}
use Rattle.rw_world.proofs.Exact.{done_below}
use Rattle.rw_world.proofs.Outstanding.{quiet_to_floor, quiet_when_finished, quiet_collected}

module _ {S B : Type 0} (y : System S B) {WellFormed : ℕ → S → Type 0} (law : IsLawful y WellFormed) (w : WorldState S B) (sound : Sound y w) where
  -- what is committed is the run in time order, up to the greatest time collected
  committed_is : (q : ℕ) (x : ProcessState S B) → slice_get w.processes q ≡ Some x → x.committed ≡ journal_below y w.collected q
  committed_is q x h =
      let at : SoundAt y.rules w.collected q x = sound.each q x h in
      let p : Event B → Bool = λ e. nat_lt e.time w.collected in
      let front : filter p x.committed ≡ x.committed = filter_all law.rules.exact p x.committed (λ e k. lt-ltb e.time w.collected (at.committed_below e k)) in
      let back : filter p x.processed ≡ [] = filter_none law.rules.exact p x.processed (λ e k. le-ltb e.time w.collected (at.processed_from e k)) in
      let whole : filter p (done x) ≡ x.committed = filter-append p x.committed x.processed ∙ ap (λ l. l ++ filter p x.processed) front ∙ ap (λ l. x.committed ++ l) back ∙ append-nil x.committed in
      sym whole ∙ ap (λ o. filter p (list_at done o)) (sym h) ∙ done_below y law w sound w.collected (quiet_collected y law w sound) q

  -- in a finished world all is done
  done_is : is_finished w ≡ true → (q : ℕ) (x : ProcessState S B) → slice_get w.processes q ≡ Some x → done x ≡ journal_below y (2 ^ 40) q
  done_is finished q x h =
      let at : SoundAt y.rules w.collected q x = sound.each q x h in
      let p : Event B → Bool = λ e. nat_lt e.time (2 ^ 40) in
      let stands : Each y.rules.order (Stands y.rules q) (done x) = Each-append law.rules.exact (Stands y.rules q) x.committed x.processed at.committed_stand at.processed_stand in
      let all : filter p (done x) ≡ done x = filter_all law.rules.exact p (done x) (λ e k. lt-ltb e.time (2 ^ 40) (law.inside e (stands e k).valid).time) in
      sym all ∙ ap (λ o. filter p (list_at done o)) (sym h) ∙ done_below y law w sound (2 ^ 40) (quiet_when_finished y law (2 ^ 40) w finished) q

  -- a finished world is the outcome of the run in time order
  outcome_is : is_finished w ≡ true → IsOutcome y (2 ^ 40) (map done w.processes) (map (λ x. x.state) w.processes)
  outcome_is finished = record {
    journals_are = map-places (λ x. x.start) done (λ q _. journal_below y (2 ^ 40) q) 0 w.processes (λ i j x h q. done_is finished j x (at i j x h q)) ∙ ap (map_from 0 (λ q _. journal_below y (2 ^ 40) q)) sound.starts;
    states_are = map-places (λ x. x.start) (λ x. x.state) (λ q s. state_after (y.rules.step q) s (journal_below y (2 ^ 40) q)) 0 w.processes (λ i j x h q. state_is j x (at i j x h q)) ∙ ap (map_from 0 (λ q s. state_after (y.rules.step q) s (journal_below y (2 ^ 40) q))) sound.starts;
  }
    where
      at : (i j : ℕ) (x : ProcessState S B) → slice_get w.processes i ≡ Some x → j ≡ 0 + i → slice_get w.processes j ≡ Some x
      at i j x h q = let e : j ≡ i = omega arith in ap (slice_get w.processes) e ∙ h

      state_is : (q : ℕ) (x : ProcessState S B) → slice_get w.processes q ≡ Some x → x.state ≡ state_after (y.rules.step q) x.start (journal_below y (2 ^ 40) q)
      state_is q x h = (sound.each q x h).state ∙ ap (state_after (y.rules.step q) x.start) (done_is finished q x h)

  -- the start of a process is the one that the system gives it
  start_is : (q : ℕ) (x : ProcessState S B) (s : S) → slice_get w.processes q ≡ Some x → slice_get y.starts q ≡ Some s → x.start ≡ s
  start_is q x s h there =
      let mapped = slice_get-map (λ u. u.start) w.processes q ∙ ap (option_map (λ u. u.start)) h in
      let same : Some x.start ≡ Some s = sym mapped ∙ ap (λ l. slice_get l q) sound.starts ∙ there in
      cc

  -- where nothing is processed, the state is that of what is committed
  settled_is : (q : ℕ) (x : ProcessState S B) (s : S) → slice_get w.processes q ≡ Some x → slice_get y.starts q ≡ Some s → x.processed ≡ []
      → x.state ≡ state_after (y.rules.step q) s (journal_below y w.collected q)
  settled_is q x s h there none =
      (sound.each q x h).state
      ∙ ap (λ l. state_after (y.rules.step q) x.start (x.committed ++ l)) none
      ∙ ap (state_after (y.rules.step q) x.start) (append-nil x.committed ∙ committed_is q x h)
      ∙ ap (λ b. state_after (y.rules.step q) b (journal_below y w.collected q)) (start_is q x s h there)

  pub in_order : IsInOrder y w
  in_order = record {
    committed = committed_is;
    left = settled_is;
    before_floor = λ t q h. done_below y law w sound t (quiet_to_floor y law t w h) q;
    finished = outcome_is;
  }
