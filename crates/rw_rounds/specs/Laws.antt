-- What is true of every round.
use Rattle.std.specs.Prelude.{◌≡◌, ℕ, ◌+◌, ◌<◌, []}
use Rattle.std.specs.declared.cmp.Ordering.{Ordering}
use Rattle.rw_vt.specs.Words.{Time, Worker}
use Rattle.rw_vt.specs.declared.event.Letter.{Letter}
use Rattle.rw_vt.specs.declared.model.Model.{Ghosts}
use Rattle.rw_pool.specs.Sums.{sum_below}
use Rattle.rw_world.specs.declared.parts.Parts.{Parts}
use Rattle.rw_world.specs.Calls.{IsWhole}
use Rattle.rw_rounds.specs.declared.plan.Plan.{Plan}
use Rattle.rw_rounds.specs.Plans.{IsInRanges}
use Rattle.rw_rounds.specs.Bags.{weigh}
use Rattle.rw_rounds.specs.Rounds.{Round, weigh_left}

-- no worker of this round has set a letter aside, and so all letters after it are those that were left in the rings and
-- those that were kept
pub record SetsNoneAside {M S B U : Type 0} (model : Ghosts M S B U) (order : B → B → Ordering)
    (plan : Plan) (x z : Parts M S B U) (floor : Time)
    (round : Round model order plan x z floor) : Type 0 where
  pub none_aside : (i : Worker) → i < plan.workers → (round.last i).aside ≡ []
  pub letters_are : (h : Letter B → ℕ)
      → weigh h z.letters.items
      ≡ weigh_left plan.workers h round.left
      + sum_below plan.workers (λ i. weigh h (round.last i).kept)

-- whatever the workers of a round do, from the parts of a sound world and by a plan in its ranges, no letter is set
-- aside
abbrev pub NoneIsSetAside : {M S B U : Type 0} → Ghosts M S B U → (B → B → Ordering) → Type 0
NoneIsSetAside {M} {S} {B} {U} model order =
    (plan : Plan) (x z : Parts M S B U) (floor : Time)
    → IsInRanges plan → IsWhole model order x
    → (round : Round model order plan x z floor)
    → SetsNoneAside model order plan x z floor round
