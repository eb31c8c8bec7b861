use Rattle.rw_vt.specs.Order.{event_cmp}
use Rattle.rw_world.proofs.Resting.{IsSoFar}
use Rattle.rw_world.proofs.rest.without_owed.Given as goal

abbrev pub invariant-loop-event : goal.invariant-loop-event
invariant-loop-event g l = IsSoFar (event_cmp g.M.Body.Ord.cmp) l.fn.there.items l.fn.owed.items l.left.items l.event-iterator.rest.items l.owed
