-- What rounds promise of the worlds before and after them.
use Rattle.std.specs.Prelude.{◌≡◌, ◌≤◌, max, min, ◌++◌, slice_get, Some}
use Rattle.std.specs.declared.cmp.Ordering.{Ordering}
use Rattle.rw_vt.specs.Words.{Process, Time}
use Rattle.rw_vt.specs.Limits.{end_of_time}
use Rattle.rw_vt.specs.declared.model.Model.{Ghosts}
use Rattle.rw_lp.specs.Process.{ProcessState}
use Rattle.rw_world.specs.Calls.{Simulation, system_of}
use Rattle.rw_world.specs.Sound.{Sound}
use Rattle.rw_world.specs.WorldState.{floor}

-- z is of the model, the starts and the initial events of x
pub record IsSameSystem {M S B : Type 0} (x z : Simulation M S B) : Type 0 where
  pub model : z.model ≡ x.model
  pub starts : z.starts ≡ x.starts
  pub initial : z.initial ≡ x.initial

-- rounds took x to z and gave this time as their floor; nothing from `until` on is committed
pub record Advanced {M S B U : Type 0} (model : Ghosts M S B U) (order : B → B → Ordering)
    (until : Time) (x z : Simulation M S B) (reached : Time) : Type 0 where
  pub system : IsSameSystem x z
  pub sound : Sound (system_of model order z) z.world
  -- the floor is a lower bound of what is outstanding, and no earlier than what was outstanding
  -- before, so it never goes back
  pub within : reached ≤ end_of_time
  pub below_floor : reached ≤ floor z.world
  pub no_earlier : floor x.world ≤ reached
  pub collected : z.world.collected ≡ max x.world.collected (min reached until)
  -- no committed event is lost
  pub longer : (q : Process) (a b : ProcessState S B)
      → slice_get x.world.processes q ≡ Some a → slice_get z.world.processes q ≡ Some b
      → (rest : _) × (a.committed ++ rest ≡ b.committed)
