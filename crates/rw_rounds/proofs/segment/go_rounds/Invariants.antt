use Rattle.std.proofs.Common.{◌≤◌}
use Rattle.rw_rounds.specs.Between.{IsUnderway}
use Rattle.rw_rounds.proofs.segment.go_rounds.Given as goal

abbrev pub invariant-rounds : goal.invariant-rounds
invariant-rounds g l = record {
  underway : IsUnderway g.M.Model g.M.Body.Ord.cmp l.fn.bounds.plan.workers l.fn.world l.between l.reached.floor;
  some_left : 1 ≤ l.left;
}

abbrev pub decreases-rounds : goal.decreases-rounds
decreases-rounds g l = l.left
