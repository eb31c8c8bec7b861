use Rattle.std.proofs.Common.{arith}
use Rattle.rw_pending.proofs.Marking.{set_other, set_same, summary_set}
use Rattle.rw_pending.proofs.marks.Marks.set.Goals as goal

pub invariant_of-self : goal.invariant_of-self
invariant_of-self c = let m = c.self.inside in summary_set m.summary m.words c.args.at c.self.invariant (omega arith) (omega arith)

pub returns-clause-set : goal.returns-clause-set
returns-clause-set c = set_same c.self.inside.words c.args.at (omega arith)

pub returns-clause-others : goal.returns-clause-others
returns-clause-others c = λ k ne. rw (← c.self.view_is) (set_other c.self.inside.words c.args.at (omega arith) k ne)
