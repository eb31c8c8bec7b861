use Rattle.rw_vt.specs.System.{rules}
use Rattle.rw_rounds.specs.Turns.{IsFit, TookTurns}
use Rattle.rw_rounds.specs.Working.{with_inbox, CanWork}
use Rattle.rw_rounds.proofs.inner.Inner.turns.Given as goal

abbrev pub invariant-loop-turn : goal.invariant-loop-turn
invariant-loop-turn g l = record {
  took : TookTurns (rules g.M.Model g.M.Body.Ord.cmp l.context.model.now) l.turn (with_inbox l.fn.self l.fn.at_hand.items) (with_inbox l.self l.at_hand.items);
  fit : IsFit g.M.Model g.M.Body.Ord.cmp l.context.model.now (with_inbox l.self l.at_hand.items);
  ready : CanWork g.M.Model g.M.Body.Ord.cmp l.context l.self;
}
