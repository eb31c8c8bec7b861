-- Each process of a sound world is one of those that were started.
use Rattle.std.proofs.Common.{◌≡◌, ℕ, sym, ap, ◌∙◌, Some}
use Rattle.std.specs.Prelude.{slice_get}
use Rattle.std.specs.Option.{option_map}
use Rattle.std.proofs.lemmas.Option.{slice_get-map}
use Rattle.rw_vt.specs.System.{System}
use Rattle.rw_lp.specs.Process.{ProcessState}
use Rattle.rw_world.specs.WorldState.{WorldState}
use Rattle.rw_world.specs.Sound.{Sound}

module _ {S B : Type 0} (y : System S B) where
  -- a process stands in the list of starts with its own
  pub start_is : (w : WorldState S B) → Sound y w → (p : ℕ) (x : ProcessState S B) → slice_get w.processes p ≡ Some x → slice_get y.starts p ≡ Some x.start
  start_is w sound p x at =
      ap (λ l. slice_get l p) (sym sound.starts) ∙ slice_get-map (λ u. u.start) w.processes p ∙ ap (option_map (λ u. u.start)) at
