use Rattle.std.proofs.Common.{◌≡◌, ◌+◌, ◌-◌, ◌≤◌, []}
use Rattle.rw_rounds.specs.Working.{DealsWithAll, dones}
use Rattle.rw_rounds.proofs.inner.Inner.execute_some.Given as goal

abbrev pub invariant-loop-executed : goal.invariant-loop-executed
invariant-loop-executed g l = record {
  dealt : DealsWithAll g.M.Model g.M.Body.Ord.cmp l.context l.fn.self l.self [] l.at_hand.items l.executed;
  plan : l.self.plan ≡ l.fn.self.plan;
  within : l.executed ≤ l.fn.self.plan.batch;
}

abbrev pub decreases-loop-executed : goal.decreases-loop-executed
decreases-loop-executed g l = dones l.self.processes.items + ((l.fn.self.plan.batch - l.executed) + (l.fn.self.plan.batch - l.executed))
