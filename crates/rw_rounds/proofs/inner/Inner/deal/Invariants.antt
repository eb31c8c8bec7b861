use Rattle.std.proofs.Common.{◌+◌, ◌≤◌, length}
use Rattle.rw_vt.specs.System.{rules}
use Rattle.rw_rounds.specs.Bags.{Every}
use Rattle.rw_rounds.specs.Deeds.{IsFair}
use Rattle.rw_rounds.specs.Working.{role_of, worker_of, CanWork, Works, sizes, dones}
use Rattle.rw_rounds.proofs.inner.Inner.deal.Given as goal

abbrev pub invariant-loop-letter : goal.invariant-loop-letter
invariant-loop-letter g l = record {
  works : Works (rules g.M.Model g.M.Body.Ord.cmp l.context.model.now) (role_of l.fn.self) (worker_of l.fn.self) (worker_of l.self) l.fn.at_hand.items l.at_hand.items 0;
  ready : CanWork g.M.Model g.M.Body.Ord.cmp l.context l.self;
  fair : Every (IsFair (rules g.M.Model g.M.Body.Ord.cmp l.context.model.now) l.fn.self.collected) l.at_hand.items;
  fewer : dones l.self.processes.items ≤ dones l.fn.self.processes.items;
}

abbrev pub decreases-loop-letter : goal.decreases-loop-letter
decreases-loop-letter g l = sizes (rules g.M.Model g.M.Body.Ord.cmp l.context.model.now) l.self.processes.items + length l.at_hand.items
