use Rattle.std.proofs.Common.{arith, ap, ◌≡◌, ◌+◌}
use Rattle.std.proofs.lemmas.Grind.{common_steps}
use Rattle.rw_blocks.specs.State.{QueueState}
use Rattle.rw_blocks.proofs.Laws.{Undoes-after_split}
use Rattle.rw_blocks.proofs.Moved.{IsLoose-after_split}
use Rattle.rw_blocks.proofs.Errors.{if_error, on_error}
use Rattle.rw_blocks.proofs.queue.Queue.split.Goals as goal

pub part-requires-clause-after : goal.part-requires-clause-after
part-requires-clause-after c =
    let q : QueueState = c.args.self.now in
    let next : c.self.inside.next ≡ q.next = ap (λ (z : QueueState). z.next) c.self.view_is in
    (q.next + 2, rw next (IsLoose-after_split q c.args.section c.args.keep c.requires.loose c.requires.there c.requires.few))

pub returns-clause-effect : goal.returns-clause-effect
returns-clause-effect c = grind (arith, common_steps)

pub returns-clause-undoes : goal.returns-clause-undoes
returns-clause-undoes c =
    rw (returns-clause-effect c)
    (Undoes-after_split _ _ _ c.requires.loose c.requires.there
    (IsLoose-after_split _ _ _ c.requires.loose c.requires.there c.requires.few))

pub returns-clause-kept : goal.returns-clause-kept
returns-clause-kept c = rw (returns-clause-effect c) (IsLoose-after_split _ _ _ c.requires.loose c.requires.there c.requires.few)

pub returns-in_err-part-clause-effect : goal.returns-in_err-part-clause-effect
returns-in_err-part-clause-effect c = on_error _ _ c.from_residual.result c.from_residual.ensures.1

pub returns-in_err-part-clause-undoes : goal.returns-in_err-part-clause-undoes
returns-in_err-part-clause-undoes c = if_error _ _ c.from_residual.result c.from_residual.ensures.1

pub returns-in_err-part-clause-kept : goal.returns-in_err-part-clause-kept
returns-in_err-part-clause-kept c = on_error _ _ c.from_residual.result c.from_residual.ensures.1
