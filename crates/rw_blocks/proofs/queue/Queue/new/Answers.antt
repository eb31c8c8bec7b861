use Rattle.std.proofs.Common.{rules, arith, refl, sym, subst, ap, ◌≡◌, ◌∙◌, [], ◌∷◌, ◌++◌}
use Rattle.rw_blocks.specs.State.{IsShape}
use Rattle.rw_blocks.specs.Loose.{IsWellFormedQueue}
use Rattle.rw_blocks.proofs.Starts.{IsWeighed-start, IsWellFormed-start}
use Rattle.rw_blocks.proofs.Errors.{if_error}
use Rattle.rw_blocks.proofs.queue.Queue.new.Goals as goal

pub returns-in_err-sections-clause-start : goal.returns-in_err-sections-clause-start
returns-in_err-sections-clause-start c = if_error _ _ c.from_residual.result c.from_residual.ensures.1

pub returns-in_err-sections-clause-well_formed : goal.returns-in_err-sections-clause-well_formed
returns-in_err-sections-clause-well_formed c = if_error _ _ c.from_residual.result c.from_residual.ensures.1

pub returns-in_err-push-clause-start : goal.returns-in_err-push-clause-start
returns-in_err-push-clause-start c = if_error _ _ c.from_residual-in_err-push.result c.from_residual-in_err-push.ensures.1

pub returns-in_err-push-clause-well_formed : goal.returns-in_err-push-clause-well_formed
returns-in_err-push-clause-well_formed c = if_error _ _ c.from_residual-in_err-push.result c.from_residual-in_err-push.ensures.1

pub invariant_of-result : goal.invariant_of-result
invariant_of-result c =
    let bytes : c.push.new.self.items ≡ 0 ∷ [] = c.in_ok-push.ensures.items ∙ ap (λ bs. bs ++ 0 ∷ []) c.new-bytes.ensures.items in
    (omega arith, λ some. rw (c.new-2.ensures, c.in_ok-sections.ensures, bytes) IsWeighed-start)

pub returns-clause-start : goal.returns-clause-start
returns-clause-start c = rw (c.in_ok-sections.ensures, c.new-2.ensures) refl

pub returns-clause-well_formed : goal.returns-clause-well_formed
returns-clause-well_formed c =
    let shaped : IsShape c.args.shape.sections c.args.shape.block c.args.shape.blocks = search rules in
    subst IsWellFormedQueue (sym (returns-clause-start c)) (IsWellFormed-start c.args.shape shaped)
