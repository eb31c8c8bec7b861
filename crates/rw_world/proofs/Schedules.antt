-- Every step keeps a sound world sound, and so does every schedule.
use Rattle.std.proofs.Common.{ℕ, List, [], ◌∷◌}
use Rattle.rw_vt.specs.System.{System}
use Rattle.rw_vt.proofs.Runs.{IsLawful}
use Rattle.rw_lp.specs.Process.{execute_next, undo_one, undo_lazily}
use Rattle.rw_lp.proofs.Cited.{execute_keeps, undo_keeps, undo_lazily_keeps}
use Rattle.rw_world.specs.declared.step.Step.{Step}
use Rattle.rw_world.specs.declared.step.Step.TheVariants.{Execute, Undo, UndoLazily, Deliver, Collect}
use Rattle.rw_world.specs.WorldState.{WorldState}
use Rattle.rw_world.specs.Steps.{apply, run}
use Rattle.rw_world.specs.Sound.{Sound}
use Rattle.rw_world.proofs.Steps.{turn_sound, deliver_sound}
use Rattle.rw_world.proofs.Collecting.{collect_sound}

module _ {S B : Type 0} (y : System S B) {WellFormed : ℕ → S → Type 0} (law : IsLawful y WellFormed) where
  pub apply_sound : (w : WorldState S B) → Sound y w → (s : Step) → Sound y (apply y w s).0
  apply_sound w sound (Execute p) = turn_sound y law w sound p (execute_next y.rules p) (execute_keeps y.rules law.rules w.collected p)
  apply_sound w sound (Undo p) = turn_sound y law w sound p (undo_one y.rules p) (undo_keeps y.rules law.rules w.collected p)
  apply_sound w sound (UndoLazily p) = turn_sound y law w sound p (undo_lazily y.rules p) (undo_lazily_keeps y.rules law.rules w.collected p)
  apply_sound w sound (Deliver i) = deliver_sound y law w sound i
  apply_sound w sound (Collect t) = collect_sound y law t w sound

  pub run_sound : (w : WorldState S B) → Sound y w → (steps : List Step) → Sound y (run y w steps)
  run_sound w sound [] = sound
  run_sound w sound (s ∷ steps) = run_sound (apply y w s).0 (apply_sound w sound s) steps
