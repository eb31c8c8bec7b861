use Rattle.std.proofs.Common.{◌∙◌}
use Rattle.std.proofs.lemmas.Result.{IfOk-from_err}
use Rattle.rw_vt.specs.Order.{event_cmp}
use Rattle.rw_vt.proofs.EventOrder.{events_exact}
use Rattle.rw_vt.proofs.Sorting.{IsExactOrder}
use Rattle.rw_rounds.proofs.Moving.{moved_undone}
use Rattle.rw_rounds.proofs.processes.execute_or_undo.Goals as goal

pub returns-clause-moved : goal.returns-clause-moved
returns-clause-moved g c =
    let o : IsExactOrder (event_cmp g.M.Body.Ord.cmp) = events_exact (record { total = g.met.M.Body.Ord.total; same = g.met.M.Model.same }) in
    let first = c.in_ok-process.ensures.turn in
    let then_ = c.in_ok-process-2.ensures.turn in
    moved_undone g.M.Model g.M.Body.Ord.cmp o c.args.process c.in_ok-process.process c.in_ok-process-2.process c.in_ok-process.answer c.in_ok-process-2._answer first.0 then_.0 c.args.out.now.items c.execute_next.new.out.items c.undo_by.new.out.items c.args.way c.requires.pending c.requires.undoable.0 c.requires.undoable.1 c.in_default.not-Done c.in_ok-process.ensures.same first.1 first.2 then_.1 then_.2

pub returns-in_err-process-clause-same : goal.returns-in_err-process-clause-same
returns-in_err-process-clause-same g c = IfOk-from_err c.from_residual.result _ c.from_residual.ensures.0

pub returns-in_err-process-clause-moved : goal.returns-in_err-process-clause-moved
returns-in_err-process-clause-moved g c = IfOk-from_err c.from_residual.result _ c.from_residual.ensures.0

pub returns-in-Done-clause-same : goal.returns-in-Done-clause-same
returns-in-Done-clause-same g c = c.in_ok-process.ensures.same

pub returns-in_err-process-2-clause-same : goal.returns-in_err-process-2-clause-same
returns-in_err-process-2-clause-same g c = IfOk-from_err c.from_residual-in_err-process-2.result _ c.from_residual-in_err-process-2.ensures.0

pub returns-in_err-process-2-clause-moved : goal.returns-in_err-process-2-clause-moved
returns-in_err-process-2-clause-moved g c = IfOk-from_err c.from_residual-in_err-process-2.result _ c.from_residual-in_err-process-2.ensures.0

pub returns-clause-same : goal.returns-clause-same
returns-clause-same g c =
    let first = c.in_ok-process.ensures.same in
    let then_ = c.in_ok-process-2.ensures.same in
    (then_.0 ∙ first.0, then_.1 ∙ first.1)
