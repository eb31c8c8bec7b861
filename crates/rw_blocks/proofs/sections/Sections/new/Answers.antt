use Rattle.std.proofs.Common.{ap, ◌∙◌, [], ◌∷◌, ◌++◌}
use Rattle.rw_blocks.proofs.Errors.{if_error}
use Rattle.rw_blocks.proofs.sections.Sections.new.Goals as goal

pub returns-in_err-tag_all : goal.returns-in_err-tag_all
returns-in_err-tag_all c = if_error _ _ c.from_residual.result c.from_residual.ensures.1

pub returns-in_err-push : goal.returns-in_err-push
returns-in_err-push c = if_error _ _ c.from_residual-in_err-push.result c.from_residual-in_err-push.ensures.1

pub returns-in_err-push-2 : goal.returns-in_err-push-2
returns-in_err-push-2 c = if_error _ _ c.from_residual-in_err-push-2.result c.from_residual-in_err-push-2.ensures.1

pub returns : goal.returns
returns c = c.in_ok-push.ensures.items ∙ (ap (λ zs. zs ++ c.new-section.result ∷ []) c.new-list.ensures.items ∙ ap (λ s. s ∷ []) c.new-section.ensures)
