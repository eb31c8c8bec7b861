use Rattle.rw_blocks.proofs.Errors.{on_error}
use Rattle.rw_blocks.proofs.section.Section.join.Goals as goal

pub returns-in_err-push_back : goal.returns-in_err-push_back
returns-in_err-push_back c = on_error _ _ c.from_residual.result c.from_residual.ensures.1

pub returns-in_err-push_back-2 : goal.returns-in_err-push_back-2
returns-in_err-push_back-2 c = on_error _ _ c.from_residual-in_err-push_back-2.result c.from_residual-in_err-push_back-2.ensures.1
