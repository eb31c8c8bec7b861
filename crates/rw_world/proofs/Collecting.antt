-- Collecting up to the floor keeps a sound world sound.
use Rattle.std.proofs.Common.{◌≡◌, ℕ, ◌≤◌, max, Bool, true, false, cond, List, [], ◌∷◌, ◌++◌, map, refl, sym, ap, ◌∙◌, subst, arith, Option, Some, None}
use Rattle.std.specs.Prelude.{nat_le, slice_get}
use Rattle.std.specs.Option.{option_map}
use Rattle.std.proofs.lemmas.Bool.{leb-true}
use Rattle.std.proofs.lemmas.Option.{slice_get-map}
use Rattle.rw_vt.specs.declared.event.Event.{Event}
use Rattle.rw_vt.specs.Order.{copies, Each}
use Rattle.rw_vt.specs.System.{System, sends_of, map_from, flatten}
use Rattle.rw_vt.proofs.Sorting.{copies-append}
use Rattle.rw_vt.proofs.Runs.{IsLawful, copies_joined}
use Rattle.rw_lp.specs.declared.answer.Answer.{Answer}
use Rattle.rw_lp.specs.declared.answer.Answer.TheVariants.{Done}
use Rattle.rw_lp.specs.declared.answer.StepFault.TheVariants.{AboveFloor}
use Rattle.rw_lp.specs.HeldMessages.{held_messages}
use Rattle.rw_lp.specs.Process as process
use Rattle.rw_lp.specs.Process.{ProcessState, done}
use Rattle.rw_lp.specs.Sound.{SoundAt}
use Rattle.rw_lp.proofs.Cited.{done_stays, collect_keeps}
use Rattle.rw_world.specs.WorldState.{WorldState, floor}
use Rattle.rw_world.specs.Steps.{refusal, collect_to}
use Rattle.rw_world.specs.Sound.{held_in, Sound, IsQuiet, Balanced, list_at, done_of, pending_of, debts_of}
use Rattle.rw_world.proofs.Outstanding.{quiet_to_floor}

module _ {S B : Type 0} (y : System S B) {WellFormed : ℕ → S → Type 0} (law : IsLawful y WellFormed) (t : ℕ) where
  module _ (w : WorldState S B) (sound : Sound y w) (quiet : IsQuiet y t w) where
    same_done : (q : ℕ) → done_of (map (process.collect t) w.processes) q ≡ done_of w.processes q
    same_done q = ap (list_at done) (slice_get-map (process.collect t) w.processes q) ∙ go (slice_get w.processes q) refl
      where
        go : (o : Option (ProcessState S B)) → slice_get w.processes q ≡ o → list_at done (option_map (process.collect t) o) ≡ list_at done o
        go None h = refl
        go (Some x) h = done_stays y.rules law.rules t w.collected q x (sound.each q x h)

    same_pending : (q : ℕ) → pending_of (map (process.collect t) w.processes) q ≡ pending_of w.processes q
    same_pending q = ap (list_at (λ x. x.pending)) (slice_get-map (process.collect t) w.processes q) ∙ go (slice_get w.processes q)
      where
        go : (o : Option (ProcessState S B)) → list_at (λ x. x.pending) (option_map (process.collect t) o) ≡ list_at (λ x. x.pending) o
        go None = refl
        go (Some x) = refl

    same_debts : (q : ℕ) → debts_of (map (process.collect t) w.processes) q ≡ debts_of w.processes q
    same_debts q = ap (list_at (λ x. x.debts)) (slice_get-map (process.collect t) w.processes q) ∙ go (slice_get w.processes q)
      where
        go : (o : Option (ProcessState S B)) → list_at (λ x. x.debts) (option_map (process.collect t) o) ≡ list_at (λ x. x.debts) o
        go None = refl
        go (Some x) = refl

    collected_each : (q : ℕ) (u : ProcessState S B) → slice_get (map (process.collect t) w.processes) q ≡ Some u → SoundAt y.rules (max w.collected t) q u
    collected_each q u h = go (slice_get w.processes q) refl (sym (slice_get-map (process.collect t) w.processes q) ∙ h)
      where
        go : (o : Option (ProcessState S B)) → slice_get w.processes q ≡ o → option_map (process.collect t) o ≡ Some u → SoundAt y.rules (max w.collected t) q u
        go None h k = cc
        go (Some x) h k =
            let is : process.collect t x ≡ u = cc in
            subst (SoundAt y.rules (max w.collected t) q) is
            (collect_keeps y.rules law.rules t w.collected q x (sound.each q x h)
            (subst (λ o. Each y.rules.order (λ e. t ≤ e.time) (list_at (λ x. x.pending) o)) h (quiet.pending q))
            (subst (λ o. Each y.rules.order (λ e. t ≤ e.time) (list_at (λ x. x.debts) o)) h (quiet.debts q)))

    same_held : (ps : List (ProcessState S B)) → held_in (map (process.collect t) ps) ≡ held_in ps
    same_held [] = refl
    same_held (x ∷ ps) = ap (λ l. held_messages x.held ++ l) (same_held ps)

    collected_balance : (e : Event B) → Balanced y (map (process.collect t) w.processes) w.letters e
    collected_balance e =
        let sent : (List (ProcessState S B)) → ℕ → S → List (Event B) = λ xs q s. sends_of (y.rules.step q) s (done_of xs q) in
        let a = copies_joined law.rules.exact e (sent (map (process.collect t) w.processes)) (sent w.processes) 0 y.starts (λ i j s m q. ap (λ l. copies y.rules.order e (sends_of (y.rules.step j) s l)) (same_done j)) in
        let b = ap (copies y.rules.order e) (same_done e.to) in
        let c = ap (copies y.rules.order e) (same_pending e.to) in
        let d = ap (copies y.rules.order e) (same_debts e.to) in
        let h = ap (copies y.rules.order e) (same_held w.processes) in
        omega (arith, sound.balance e, copies-append law.rules.exact e y.initial (flatten (map_from 0 (sent w.processes) y.starts)), copies-append law.rules.exact e y.initial (flatten (map_from 0 (sent (map (process.collect t) w.processes)) y.starts)))

    same_starts : (ps : List (ProcessState S B)) → map (λ x. x.start) (map (process.collect t) ps) ≡ map (λ x. x.start) ps
    same_starts [] = refl
    same_starts (x ∷ ps) = ap (λ l. x.start ∷ l) (same_starts ps)

    pub collected_sound : Sound y (record { processes = map (process.collect t) w.processes; letters = w.letters; collected = max w.collected t })
    collected_sound = record {
      starts = same_starts w.processes ∙ sound.starts;
      each = collected_each;
      letters = record {
        valid = sound.letters.valid;
        from = λ e k. let a = sound.letters.from e k in let b = quiet.letters e k in omega arith;
      };
      balance = collected_balance;
    }

  pub collect_sound : (w : WorldState S B) → Sound y w → Sound y (collect_to w t).0
  collect_sound w sound = go (nat_le t (floor w)) refl
    where
      go : (b : Bool) → nat_le t (floor w) ≡ b → Sound y (cond {A = WorldState S B × Answer} b (record { processes = map (process.collect t) w.processes; letters = w.letters; collected = max w.collected t }, Done) (refusal w AboveFloor)).0
      go true h = collected_sound w sound (quiet_to_floor y law t w (leb-true t (floor w) h))
      go false h = sound
