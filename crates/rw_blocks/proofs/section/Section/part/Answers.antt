use Rattle.rw_blocks.proofs.Errors.{if_error, on_error}
use Rattle.rw_blocks.proofs.section.Section.part.Goals as goal

pub returns-in_err-sealed-clause-upper : goal.returns-in_err-sealed-clause-upper
returns-in_err-sealed-clause-upper c = on_error _ _ c.from_residual.result c.from_residual.ensures.1

pub returns-in_err-sealed-clause-lower : goal.returns-in_err-sealed-clause-lower
returns-in_err-sealed-clause-lower c = if_error _ _ c.from_residual.result c.from_residual.ensures.1
