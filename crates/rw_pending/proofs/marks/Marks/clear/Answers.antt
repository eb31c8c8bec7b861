use Rattle.std.proofs.Common.{arith}
use Rattle.rw_pending.proofs.Marking.{clear_other, clear_same, summary_clear}
use Rattle.rw_pending.proofs.marks.Marks.clear.Goals as goal

pub invariant_of-self : goal.invariant_of-self
invariant_of-self c = let m = c.self.inside in summary_clear m.summary m.words c.args.at c.self.invariant (omega arith) (omega arith) c.if-word-eq0.true

pub returns-then-word-eq0-clause-others : goal.returns-then-word-eq0-clause-others
returns-then-word-eq0-clause-others c = λ k ne. rw (← c.self.view_is) (clear_other c.self.inside.words c.args.at (omega arith) k ne)

pub returns-else-word-eq0-clause-clear : goal.returns-else-word-eq0-clause-clear
returns-else-word-eq0-clause-clear c = clear_same c.self.inside.words c.args.at (omega arith)

pub returns-else-word-eq0-clause-others : goal.returns-else-word-eq0-clause-others
returns-else-word-eq0-clause-others c = λ k ne. rw (← c.self.view_is) (clear_other c.self.inside.words c.args.at (omega arith) k ne)
