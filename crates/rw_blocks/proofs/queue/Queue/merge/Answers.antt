use Rattle.std.proofs.Common.{arith}
use Rattle.std.proofs.lemmas.Grind.{common_steps}
use Rattle.rw_blocks.specs.State.{QueueState}
use Rattle.rw_blocks.proofs.Laws.{Undoes-after_merge}
use Rattle.rw_blocks.proofs.Moved.{IsLoose-after_merge}
use Rattle.rw_blocks.proofs.Errors.{if_error, on_error}
use Rattle.rw_blocks.proofs.queue.Queue.merge.Goals as goal

pub join-requires-clause-after : goal.join-requires-clause-after
join-requires-clause-after c =
    let q : QueueState = c.args.self.now in
    (q.next, rw c.seam_below-seam.ensures (IsLoose-after_merge q c.args.section c.requires.loose c.requires.there))

pub returns-clause-effect : goal.returns-clause-effect
returns-clause-effect c = grind (arith, common_steps)

pub returns-clause-undoes : goal.returns-clause-undoes
returns-clause-undoes c =
    rw (returns-clause-effect c, c.seam_below-seam.ensures)
    (Undoes-after_merge _ _ c.requires.loose c.requires.there (IsLoose-after_merge _ _ c.requires.loose c.requires.there))

pub returns-clause-kept : goal.returns-clause-kept
returns-clause-kept c = rw (returns-clause-effect c) (IsLoose-after_merge _ _ c.requires.loose c.requires.there)

pub returns-in_err-join-clause-effect : goal.returns-in_err-join-clause-effect
returns-in_err-join-clause-effect c = on_error _ _ c.from_residual.result c.from_residual.ensures.1

pub returns-in_err-join-clause-undoes : goal.returns-in_err-join-clause-undoes
returns-in_err-join-clause-undoes c = if_error _ _ c.from_residual.result c.from_residual.ensures.1

pub returns-in_err-join-clause-kept : goal.returns-in_err-join-clause-kept
returns-in_err-join-clause-kept c = on_error _ _ c.from_residual.result c.from_residual.ensures.1
