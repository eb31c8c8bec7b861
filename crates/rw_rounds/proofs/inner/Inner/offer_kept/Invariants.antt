use Rattle.std.proofs.Common.{◌≡◌, []}
use Rattle.rw_vt.specs.System.{rules}
use Rattle.rw_rounds.specs.Bags.{Every}
use Rattle.rw_rounds.specs.Turns.{owner}
use Rattle.rw_rounds.specs.Working.{role_of, worker_of, CanWork, Works}
use Rattle.rw_rounds.proofs.inner.Inner.offer_kept.Given as goal

abbrev pub invariant-loop-letter : goal.invariant-loop-letter
invariant-loop-letter g l = record {
  works : Works (rules g.M.Model g.M.Body.Ord.cmp l.context.model.now) (role_of l.fn.self) (record (worker_of l.fn.self) { kept = [] }) (worker_of l.self) l.fn.self.kept.items l.letter-iterator.rest.items 0;
  ready : CanWork g.M.Model g.M.Body.Ord.cmp l.context l.self;
  others : Every (λ x. owner (role_of l.fn.self) x ≡ l.fn.self.number → ⊥) l.letter-iterator.rest.items;
}
