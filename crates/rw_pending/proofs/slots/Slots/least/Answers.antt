use Rattle.rw_pending.proofs.Wheels.{least_none}
use Rattle.rw_pending.proofs.slots.Slots.least.Goals as goal

pub returns-in_default : goal.returns-in_default
returns-in_default g c = rw (← c.self.view_is) (least_none c.self.inside.slots.items (λ k. (c.self.invariant.marked k).0 (c.in_default.ensures.none k)))
