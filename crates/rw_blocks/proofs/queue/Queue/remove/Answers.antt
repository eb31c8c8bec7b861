use Rattle.std.proofs.Common.{arith}
use Rattle.std.proofs.lemmas.Grind.{common_steps}
use Rattle.rw_blocks.proofs.Laws.{Undoes-after_remove}
use Rattle.rw_blocks.proofs.Kept.{IsLoose-after_remove}
use Rattle.rw_blocks.proofs.queue.Queue.remove.Goals as goal

pub returns-clause-effect : goal.returns-clause-effect
returns-clause-effect c = grind (arith, common_steps)

pub returns-clause-undoes : goal.returns-clause-undoes
returns-clause-undoes c =
    rw (returns-clause-effect c)
    (Undoes-after_remove _ _ _ c.requires.loose (cc)
    (IsLoose-after_remove _ _ c.requires.loose))

pub returns-clause-kept : goal.returns-clause-kept
returns-clause-kept c = rw (returns-clause-effect c) (IsLoose-after_remove _ _ c.requires.loose)
