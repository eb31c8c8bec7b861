use Rattle.std.proofs.Common.{◌≡◌, ◌+◌, ℕ}
use Rattle.rw_vt.specs.declared.event.Letter.{Letter}
use Rattle.rw_exchange.specs.Ports.{entry}
use Rattle.rw_pool.specs.Sums.{sum_below}
use Rattle.rw_rounds.specs.Bags.{weigh}
use Rattle.rw_rounds.proofs.gathering.add_sent.Given as goal

abbrev pub invariant-loop-to : goal.invariant-loop-to
invariant-loop-to g l = (h : Letter g.row.B.Denot → ℕ) → weigh h l.letters.items ≡ weigh h l.initial.letters.items + sum_below l.to (λ k. weigh h (entry l.left l.from k))
