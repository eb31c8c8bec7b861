use Rattle.std.proofs.lemmas.Result.{err_from_is_err_and, IfOk-from_err}
use Rattle.std.proofs.Common.{refl, ap, ◌∙◌, ◌++◌, ◌∷◌, []}
use Rattle.rw_world.proofs.opening.open_process.Goals as goal

pub returns-clause-opened : goal.returns-clause-opened
returns-clause-opened g c = c.in_ok-push.ensures.items ∙ ap (λ l. c.args.processes.now.items ++ l ∷ []) c.in_ok-new.ensures.opened

pub returns-in_err-new : goal.returns-in_err-new
returns-in_err-new g c =
    let p = err_from_is_err_and c.from_residual.result c.from_residual.ensures.1 in
    record { opened = IfOk-from_err _ _ c.from_residual.ensures.0; memory = rw (p.1, p.2) c.in_err-new.ensures.memory }

pub returns-in_err-push : goal.returns-in_err-push
returns-in_err-push g c =
    let p = err_from_is_err_and c.from_residual-in_err-push.result c.from_residual-in_err-push.ensures.1 in
    record { opened = IfOk-from_err _ _ c.from_residual-in_err-push.ensures.0; memory = rw (p.1, p.2) refl }
