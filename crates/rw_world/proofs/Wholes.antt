-- What the parts of a world tell: laws of the model, the letters on their way, what is committed and what a floor says.
use Rattle.std.proofs.Common.{◌≡◌, ℕ, ◌<◌, true, length, map, sym, ap, ◌∙◌, subst, arith, Some}
use Rattle.std.specs.Prelude.{slice_get}
use Rattle.std.specs.declared.cmp.Ordering.{Ordering}
use Rattle.std.specs.Option.{option_map}
use Rattle.std.proofs.lemmas.List.{length-map}
use Rattle.std.proofs.lemmas.Option.{same_Some, slice_get-map}
use Rattle.rw_vt.specs.declared.event.Letter.{Letter}
use Rattle.rw_vt.specs.declared.model.Model.{Ghosts}
use Rattle.rw_vt.specs.System.{IsReady, journal_below, state_after}
use Rattle.rw_vt.proofs.Runs.{IsLawful}
use Rattle.rw_vt.proofs.Laws.{Laws, lawful}
use Rattle.rw_lp.specs.Calls.{LogicalProcess}
use Rattle.rw_lp.specs.Process.{done}
use Rattle.rw_world.specs.declared.parts.Parts.{Parts}
use Rattle.rw_world.specs.Sound.{Sound, IsInOrder, list_at, committed_of, done_of}
use Rattle.rw_world.specs.Calls.{Simulation, system_of, simulation_of, world_of, IsWhole}
use Rattle.rw_world.proofs.Lookups.{some_at}
use Rattle.rw_world.proofs.OnTheirWay.{letter_counts}
use Rattle.rw_world.proofs.Outcomes.{in_order}
use Rattle.rw_world.proofs.Made.{processes_count}

module _ {M S B U : Type 0} {model : Ghosts M S B U} {order : B → B → Ordering} (laws : Laws model order) where
  pub law_of : (x : Simulation M S B) → IsReady model x.model x.starts x.initial → IsLawful (system_of model order x) (model.IsWellFormed x.model)
  law_of x ready = lawful laws x.model x.starts x.initial ready

  pub world_in_order : (x : Simulation M S B) → IsReady model x.model x.starts x.initial → Sound (system_of model order x) x.world → IsInOrder (system_of model order x) x.world
  world_in_order x ready sound = in_order (system_of model order x) (law_of x ready) x.world sound

  module _ (x : Parts M S B U) (whole : IsWhole model order x) where
    pub letter_inside : (i : ℕ) (l : Letter B) → slice_get x.letters.items i ≡ Some l → (model.is_valid x.model l.event ≡ true) × (l.event.to < length x.processes.items)
    letter_inside i l there =
        let y = system_of model order (simulation_of x) in
        let counts = letter_counts y (law_of (simulation_of x) whole.ready) x.letters.items i l there in
        let valid = whole.sound.letters.valid l.event counts in
        (valid, subst (λ n. l.event.to < n) (sym (processes_count model order x whole)) (laws.ranges x.model l.event valid).to)

    pub letters_inside : (i : ℕ) (l : Letter B) → slice_get (world_of x).letters i ≡ Some l → l.event.to < length (world_of x).processes
    letters_inside i l there = subst (λ n. l.event.to < n) (sym (length-map x.processes.items (λ a. a.process))) (letter_inside i l there).1

    pub committed_is : (p : ℕ) → p < length x.processes.items → committed_of (world_of x).processes p ≡ journal_below (system_of model order (simulation_of x)) x.collected p
    committed_is p within =
        let n : length (world_of x).processes ≡ length x.processes.items = length-map x.processes.items (λ l. l.process) in
        let there = some_at (world_of x).processes p (omega arith) in
        ap (list_at (λ u. u.committed)) there.1 ∙ (world_in_order (simulation_of x) whole.ready whole.sound).committed p there.0 there.1

-- process p, as it stands in the parts
module _ {M S B U : Type 0} {model : Ghosts M S B U} {order : B → B → Ordering} (x : Parts M S B U) (whole : IsWhole model order x) (p : ℕ) (l : LogicalProcess M S B) (there : slice_get x.processes.items p ≡ Some l) where
  at_p : slice_get (world_of x).processes p ≡ Some l.process
  at_p = slice_get-map (λ l. l.process) x.processes.items p ∙ ap (option_map (λ l. l.process)) there

  pub state_there : slice_get (map (λ u. u.state) (world_of x).processes) p ≡ Some l.process.state
  state_there = slice_get-map (λ u. u.state) (world_of x).processes p ∙ ap (option_map (λ u. u.state)) at_p

  -- its state is the fold of what it has done
  pub state_folds : (start : S) → slice_get x.starts.value.items p ≡ Some start → l.process.state ≡ state_after (model.step x.model p) start (done_of (world_of x).processes p)
  state_folds start is =
      let started : slice_get (map (λ u. u.start) (world_of x).processes) p ≡ Some l.process.start = slice_get-map (λ u. u.start) (world_of x).processes p ∙ ap (option_map (λ u. u.start)) at_p in
      let same : l.process.start ≡ start = same_Some l.process.start start (sym started ∙ ap (λ ss. slice_get ss p) whole.sound.starts ∙ is) in
      (whole.sound.each p l.process at_p).state
      ∙ ap (λ s. state_after (model.step x.model p) s (done l.process)) same
      ∙ ap (λ o. state_after (model.step x.model p) start (list_at done o)) (sym at_p)
