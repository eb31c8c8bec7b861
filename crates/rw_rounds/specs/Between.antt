-- A segment between two rounds: its processes, which stay with their workers, and its letters make
-- up the parts of a world. Only contracts of private functions cite what stands here.
use Rattle.std.specs.Prelude.{◌≡◌, ◌+◌, ◌*◌, ◌<◌, ◌≤◌, [], length, map, slice_get, slice_index_or}
use Rattle.std.specs.declared.cmp.Ordering.{Ordering}
use Rattle.rw_vt.specs.Words.{Count, Position, Time, Worker}
use Rattle.rw_vt.specs.declared.model.Model.{Ghosts}
use Rattle.rw_world.specs.declared.parts.Parts.{Parts}
use Rattle.rw_world.specs.Calls.{Simulation, simulation_of, world_of, IsWhole}
use Rattle.rw_world.specs.WorldState.{floor}
use Rattle.rw_rounds.specs.declared.plan.Plan.{Plan}
use Rattle.rw_rounds.specs.declared.between.Between.{Between}
use Rattle.rw_rounds.specs.Rounds.{Round}

-- between two rounds of n workers the segment has what the parts x have, and each worker has its
-- own processes
pub record IsBetween {M G S B U : Type 0} (n : Count) (x : Parts M S B U) (b : Between M G S B U)
    : Type 0 where
  pub model_is : b.model ≡ x.model
  pub many : length b.shares.items ≡ n
  pub dealt : (i : Worker) (place : Position) → i < n
      → slice_get (slice_index_or (map (λ h. h.items) b.shares.items) i []) place
      ≡ slice_get x.processes.items (i + place * n)
  pub letters_are : b.letters.items ≡ x.letters.items
  pub count_is : b.rest.count ≡ length x.processes.items
  pub collected_is : b.rest.collected ≡ x.collected
  pub starts_are : b.rest.starts ≡ x.starts
  pub initial_are : b.rest.initial ≡ x.initial

-- the segment has come from the parts x by one round, with this time as its floor
pub record RoundTo {M G S B U : Type 0} (model : Ghosts M S B U) (order : B → B → Ordering)
    (plan : Plan) (x : Parts M S B U) (b : Between M G S B U) (reached : Time) : Type 0 where
  pub after : Parts M S B U
  pub round : Round model order plan x after reached
  pub stands : IsBetween plan.workers after b

-- z has what x has
pub record IsSameParts {M S B U : Type 0} (x z : Parts M S B U) : Type 0 where
  pub model_is : z.model ≡ x.model
  pub processes_are : z.processes.items ≡ x.processes.items
  pub letters_are : z.letters.items ≡ x.letters.items
  pub collected_is : z.collected ≡ x.collected
  pub starts_are : z.starts ≡ x.starts
  pub initial_are : z.initial ≡ x.initial

-- x leads to z with this time as the floor: both are whole and of one run, nothing was collected in
-- between, and the floor does not go back
pub record LeadsTo {M S B U : Type 0} (model : Ghosts M S B U) (order : B → B → Ordering)
    (x z : Parts M S B U) (reached : Time) : Type 0 where
  pub before : IsWhole model order x
  pub after : IsWhole model order z
  pub model_is : z.model ≡ x.model
  pub starts_are : z.starts ≡ x.starts
  pub initial_are : z.initial ≡ x.initial
  pub collected_is : z.collected ≡ x.collected
  pub rises : floor (world_of x) ≤ reached
  pub below : reached ≤ floor (world_of z)

-- the parts of the world s lead to z
pub record LeadsFrom {M S B U : Type 0} (model : Ghosts M S B U) (order : B → B → Ordering)
    (s : Simulation M S B) (z : Parts M S B U) (reached : Time) : Type 0 where
  pub first : Parts M S B U
  pub of : simulation_of first ≡ s
  pub leads : LeadsTo model order first z reached

-- the parts of the world s lead to those that the segment has
pub record IsUnderway {M G S B U : Type 0} (model : Ghosts M S B U) (order : B → B → Ordering)
    (n : Count) (s : Simulation M S B) (b : Between M G S B U) (reached : Time) : Type 0 where
  pub now : Parts M S B U
  pub leads : LeadsFrom model order s now reached
  pub stands : IsBetween n now b
