-- A world that was just opened is sound.
use Rattle.std.proofs.Common.{◌≡◌, ℕ, ◌+◌, ◌<◌, List, [], ◌∷◌, map, refl, sym, ap, ◌∙◌, subst, arith, Option, Some, None}
use Rattle.std.specs.Prelude.{filter, slice_get, ◌==◌}
use Rattle.std.specs.Option.{option_map}
use Rattle.std.proofs.lemmas.Bool.{eqb-true, eq-eqb}
use Rattle.std.proofs.lemmas.List.Elements.{All-nil}
use Rattle.rw_vt.specs.declared.event.Event.{Event}
use Rattle.rw_vt.specs.Order.{copies, Each, in_order}
use Rattle.rw_vt.specs.System.{System, sends_of, map_from, flatten, all_sent}
use Rattle.rw_vt.proofs.Sorting.{copies-append, copies-in_order, Has-filter, IsAscending-in_order}
use Rattle.rw_vt.proofs.Bags.{none_if, Each-nil, copies-filter_yes}
use Rattle.rw_vt.proofs.Runs.{IsLawful, copies_joined}
use Rattle.rw_lp.specs.Process.{ProcessState, done}
use Rattle.rw_lp.specs.Sound.{Stands, IsHeldFor, SoundAt}
use Rattle.rw_lp.proofs.Cited.{no_letters}
use Rattle.rw_world.specs.WorldState.{opening_process, opening_world}
use Rattle.rw_world.specs.Sound.{held_in, Sound, list_at, done_of, pending_of}
use Rattle.rw_world.proofs.Lookups.{some_at, get-map_from, map_from-empty}

module _ {S B : Type 0} (y : System S B) where
  opened_starts : (k : ℕ) (ss : List S) → map (λ x. x.start) (map_from k (opening_process y) ss) ≡ ss
  opened_starts k [] = refl
  opened_starts k (s ∷ ss) = ap (λ l. s ∷ l) (opened_starts (k + 1) ss)

  opened_is : (q : ℕ) → slice_get (opening_world y).processes q ≡ option_map (opening_process y q) (slice_get y.starts q)
  opened_is q = let k : 0 + q ≡ q = omega arith in get-map_from (opening_process y) 0 y.starts q ∙ ap (λ n. option_map (opening_process y n) (slice_get y.starts q)) k

  -- a list that is empty at each start is empty
  nothing : (f : ProcessState S B → List (Event B)) → ((q : ℕ) (s : S) → f (opening_process y q s) ≡ []) → (q : ℕ) → list_at f (slice_get (opening_world y).processes q) ≡ []
  nothing f none q = ap (list_at f) (opened_is q) ∙ go (slice_get y.starts q)
    where
      go : (o : Option S) → list_at f (option_map (opening_process y q) o) ≡ []
      go None = refl
      go (Some s) = none q s

  nothing_held : (e : Event B) (k : ℕ) (ss : List S) → copies y.rules.order e (held_in (map_from k (opening_process y) ss)) ≡ 0
  nothing_held e k [] = refl
  nothing_held e k (s ∷ ss) = nothing_held e (k + 1) ss

  module _ {WellFormed : ℕ → S → Type 0} (law : IsLawful y WellFormed) where
    nothing_sent : (e : Event B) → copies y.rules.order e (all_sent y (done_of (opening_world y).processes)) ≡ copies y.rules.order e y.initial
    nothing_sent e =
        let sends : ℕ → S → List (Event B) = λ q s. sends_of (y.rules.step q) s (done_of (opening_world y).processes q) in
        let joined = copies_joined law.rules.exact e sends (λ _ _. []) 0 y.starts (λ i j s m q. ap (λ l. copies y.rules.order e (sends_of (y.rules.step j) s l)) (nothing done (λ _ _. refl) j)) in
        let empty = ap (copies y.rules.order e) (map_from-empty {E = Event B} 0 y.starts) in
        omega (arith, joined, empty, copies-append law.rules.exact e y.initial (flatten (map_from 0 sends y.starts)))

    opened_each : (q : ℕ) (x : ProcessState S B) → slice_get (opening_world y).processes q ≡ Some x → SoundAt y.rules 0 q x
    opened_each q x h = go (slice_get y.starts q) (sym (opened_is q) ∙ h)
      where
        stand : Each y.rules.order (Stands y.rules q) (in_order y.rules.order (filter (λ a. a.to == q) y.initial))
        stand e k =
            let found = Has-filter law.rules.exact (λ a. a.to == q) e y.initial (omega (arith, copies-in_order law.rules.exact e (filter (λ a. a.to == q) y.initial))) in
            record { valid = law.initial e found.0; here = eqb-true e.to q found.1 }

        at : (s : S) → SoundAt y.rules 0 q (opening_process y q s)
        at s = record {
          order = tt;
          state = refl;
          committed_stand = Each-nil law.rules.exact (Stands y.rules q);
          committed_below = Each-nil law.rules.exact (λ e. e.time < 0);
          processed_stand = Each-nil law.rules.exact (Stands y.rules q);
          processed_from = λ e k. omega arith;
          pending_stand = stand;
          pending_from = λ e k. omega arith;
          pending_order = IsAscending-in_order law.rules.exact (filter (λ a. a.to == q) y.initial);
          debts_stand = Each-nil law.rules.exact (Stands y.rules q);
          debts_from = λ e k. omega arith;
          debts_order = tt;
          held = All-nil (λ h. IsHeldFor y.rules (in_order y.rules.order (filter (λ a. a.to == q) y.initial)) h);
        }

        go : (o : Option S) → option_map (opening_process y q) o ≡ Some x → SoundAt y.rules 0 q x
        go None k = cc
        go (Some s) k = let is : opening_process y q s ≡ x = cc in subst (SoundAt y.rules 0 q) is (at s)

    -- initial events are pending where they go
    all_pending : (e : Event B) → copies y.rules.order e (pending_of (opening_world y).processes e.to) ≡ copies y.rules.order e y.initial
    all_pending e = ap (λ o. copies y.rules.order e (list_at (λ x. x.pending) o)) (opened_is e.to) ∙ go (slice_get y.starts e.to) refl
      where
        go : (o : Option S) → slice_get y.starts e.to ≡ o → copies y.rules.order e (list_at (λ x. x.pending) (option_map (opening_process y e.to) o)) ≡ copies y.rules.order e y.initial
        go None h = sym (none_if (copies y.rules.order e y.initial) (λ k. let there = some_at y.starts e.to (law.inside e (law.initial e k)).to in let clash : None ≡ Some there.0 = sym h ∙ there.1 in cc))
        go (Some s) h =
            copies-in_order law.rules.exact e (filter (λ a. a.to == e.to) y.initial)
            ∙ copies-filter_yes law.rules.exact (λ a. a.to == e.to) e y.initial (eq-eqb e.to e.to refl)

    pub opened_sound : Sound y (opening_world y)
    opened_sound = record {
      starts = opened_starts 0 y.starts;
      each = opened_each;
      letters = no_letters y.rules 0;
      balance = λ e.
          let b = ap (copies y.rules.order e) (nothing done (λ _ _. refl) e.to) in
          let c = ap (copies y.rules.order e) (nothing (λ x. x.debts) (λ _ _. refl) e.to) in
          omega (arith, nothing_sent e, b, c, nothing_held e 0 y.starts, all_pending e);
    }
