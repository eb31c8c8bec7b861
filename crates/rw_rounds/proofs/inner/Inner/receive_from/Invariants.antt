use Rattle.std.proofs.Common.{[]}
use Rattle.rw_rounds.specs.Working.{DealsWithAll}
use Rattle.rw_rounds.proofs.inner.Inner.receive_from.Given as goal

abbrev pub invariant-loop : goal.invariant-loop
invariant-loop g l = DealsWithAll g.M.Model g.M.Body.Ord.cmp l.context l.fn.self l.self [] l.at_hand.items 0
