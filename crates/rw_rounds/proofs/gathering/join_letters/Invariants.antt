use Rattle.std.proofs.Common.{◌≡◌, ℕ, length}
use Rattle.rw_vt.specs.declared.event.Letter.{Letter}
use Rattle.rw_exchange.specs.Ports.{entry}
use Rattle.rw_pool.specs.Sums.{sum_below}
use Rattle.rw_rounds.specs.Bags.{weigh}
use Rattle.rw_rounds.proofs.gathering.join_letters.Given as goal

abbrev pub invariant-loop-from : goal.invariant-loop-from
invariant-loop-from g l = (h : Letter g.row.B.Denot → ℕ) → weigh h l.letters.items ≡ sum_below l.from (λ i. sum_below (length l.left) (λ k. weigh h (entry l.left i k)))
