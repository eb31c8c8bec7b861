-- Committed lists only grow, since each is the run in time order up to the greatest time collected.
use Rattle.std.proofs.Common.{◌≡◌, ℕ, zero, suc, ◌+◌, ◌-◌, ◌≤◌, max, Bool, true, false, cond, List, [], ◌++◌, map, sym, ap, ◌∙◌, arith, append_assoc, append-nil, Option, Some, None}
use Rattle.std.specs.Prelude.{slice_get, nat_le}
use Rattle.rw_vt.specs.declared.event.Event.{Event}
use Rattle.rw_vt.specs.declared.event.Letter.{Letter}
use Rattle.rw_vt.specs.System.{System, all_sent, slice, journal_below}
use Rattle.rw_vt.proofs.Runs.{IsLawful}
use Rattle.rw_lp.specs.declared.answer.Answer.{Answer}
use Rattle.rw_lp.specs.declared.answer.Answer.TheVariants.{Done}
use Rattle.rw_lp.specs.declared.answer.StepFault.TheVariants.{AboveFloor}
use Rattle.rw_lp.specs.Process as process
use Rattle.rw_lp.specs.Process.{ProcessState, Turn, Turned, Stays, execute_next, undo_one, undo_lazily}
use Rattle.rw_world.specs.declared.step.Step.{Step}
use Rattle.rw_world.specs.declared.step.Step.TheVariants.{Execute, Undo, UndoLazily, Deliver, Collect}
use Rattle.rw_world.specs.WorldState.{WorldState, floor}
use Rattle.rw_world.specs.Steps.{refusal, world_after, turn_at, remove_at, deliver_to, deliver_letter, apply}
use Rattle.rw_world.specs.Sound.{Sound}
use Rattle.rw_world.proofs.Outcomes.{in_order}
use Rattle.rw_world.proofs.Schedules.{apply_sound}

module _ {S B : Type 0} (y : System S B) where
  below_more : (s k q : ℕ) → (rest : List (Event B)) × (journal_below y s q ++ rest ≡ journal_below y (s + k) q)
  unfolding journal_below
  below_more s zero q = ([], append-nil (journal_below y s q) ∙ ap (λ n. journal_below y n q) (let e : s ≡ s + 0 = omega arith in e))
  below_more s (suc k) q =
      let r = below_more s k q in
      let next = slice y (all_sent y (λ p. journal_below y (s + k) p)) (s + k) q in
      let e : suc (s + k) ≡ s + suc k = omega arith in
      (r.0 ++ next, sym (append_assoc (journal_below y s q) r.0 next) ∙ ap (λ l. l ++ next) r.1 ∙ ap (λ n. journal_below y n q) e)

  pub below_prefix : (s t q : ℕ) → s ≤ t → (rest : List (Event B)) × (journal_below y s q ++ rest ≡ journal_below y t q)
  below_prefix s t q h =
      let r = below_more s (t - s) q in
      let e : s + (t - s) ≡ t = omega arith in
      (r.0, r.1 ∙ ap (λ n. journal_below y n q) e)

  module _ (w : WorldState S B) where
    at_turned : (p : ℕ) (left : List (Letter B)) (t : Turn S B) → w.collected ≤ (world_after w p left t).0.collected
    at_turned p left (Stays f) = omega arith
    at_turned p left (Turned z out) = omega arith

    at_turn : (p : ℕ) (step : ProcessState S B → Turn S B) (o : Option (ProcessState S B)) → w.collected ≤ (turn_at w p step o).0.collected
    at_turn p step None = omega arith
    at_turn p step (Some x) = at_turned p w.letters (step x)

    at_place : (i : ℕ) (l : Letter B) (o : Option (ProcessState S B)) → w.collected ≤ (deliver_to y w i l o).0.collected
    at_place i l None = omega arith
    at_place i l (Some x) = at_turned l.event.to (remove_at w.letters i) (process.deliver y.rules.order l x)

    at_deliver : (i : ℕ) (o : Option (Letter B)) → w.collected ≤ (deliver_letter y w i o).0.collected
    at_deliver i None = omega arith
    at_deliver i (Some l) = at_place i l (slice_get w.processes l.event.to)

    at_collect : (t : ℕ) (b : Bool) → w.collected ≤ (cond {A = WorldState S B × Answer} b (record { processes = map (process.collect t) w.processes; letters = w.letters; collected = max w.collected t }, Done) (refusal w AboveFloor)).0.collected
    at_collect t true = omega arith
    at_collect t false = omega arith

    pub collected_grows : (s : Step) → w.collected ≤ (apply y w s).0.collected
    collected_grows (Execute p) = at_turn p (execute_next y.rules p) (slice_get w.processes p)
    collected_grows (Undo p) = at_turn p (undo_one y.rules p) (slice_get w.processes p)
    collected_grows (UndoLazily p) = at_turn p (undo_lazily y.rules p) (slice_get w.processes p)
    collected_grows (Deliver i) = at_deliver i (slice_get w.letters i)
    collected_grows (Collect t) = at_collect t (nat_le t (floor w))

  pub committed_grows : {WellFormed : ℕ → S → Type 0} (law : IsLawful y WellFormed) (w : WorldState S B) → Sound y w → (s : Step) (q : ℕ) (x z : ProcessState S B) → slice_get w.processes q ≡ Some x → slice_get (apply y w s).0.processes q ≡ Some z → (rest : List (Event B)) × (x.committed ++ rest ≡ z.committed)
  committed_grows law w sound s q x z h k =
      let r = below_prefix w.collected (apply y w s).0.collected q (collected_grows w s) in
      (r.0, ap (λ l. l ++ r.0) ((in_order y law w sound).committed q x h) ∙ r.1 ∙ sym ((in_order y law (apply y w s).0 (apply_sound y law w sound s)).committed q z k))
