use Rattle.std.proofs.Common.{length, refl, sym, arith}
use Rattle.std.proofs.lemmas.Option.{slice_get_read}
use Rattle.rw_world.proofs.Made.{made_undo, undo_nowhere}
use Rattle.std.proofs.lemmas.Result.{err_from_is_err_and, IfOk-from_err}
use Rattle.rw_world.proofs.parts.Parts.undo.Goals as goal

pub undo_by-requires : goal.undo_by-requires
undo_by-requires g c =
    let there = slice_get_read c.args.self.now.processes.items (length c.args.self.now.processes.items) c.args.p c.swap_remove-process.result refl (omega arith) c.swap_remove-process.ensures.value in
    record { model = sym (c.requires.whole.numbered c.args.p c.swap_remove-process.result there).0 }

pub returns-clause-made : goal.returns-clause-made
returns-clause-made g c =
    let there = slice_get_read c.args.self.now.processes.items (length c.args.self.now.processes.items) c.args.p c.swap_remove-process.result refl (omega arith) c.swap_remove-process.ensures.value in
    let turn = c.in_ok-process.ensures.turn in
    made_undo g.M.Model g.M.Body.Ord.cmp c.args.self.now _ c.requires.whole refl refl refl refl c.args.p c.swap_remove-process.result c.in_ok-process.process there c.in_ok-process.ensures.same
    (c.in_ok-give_back.ensures.back c.args.self.now.processes.items c.swap_remove-process.result (omega arith) c.swap_remove-process.ensures.items)
    c.args.way c.in_ok-process.answer turn.0 turn.1 turn.2

pub returns-then-len-place-clause-made : goal.returns-then-len-place-clause-made
returns-then-len-place-clause-made g c = undo_nowhere g.M.Model g.M.Body.Ord.cmp c.args.self.now c.requires.whole c.args.way c.args.p (omega arith)

pub returns-in_err-process-clause-made : goal.returns-in_err-process-clause-made
returns-in_err-process-clause-made g c = IfOk-from_err c.from_residual.result _ c.from_residual.ensures.0

pub returns-in_err-give_back-clause-made : goal.returns-in_err-give_back-clause-made
returns-in_err-give_back-clause-made g c = IfOk-from_err c.from_residual-in_err-give_back.result _ c.from_residual-in_err-give_back.ensures.0

pub returns-in_err-give_back-clause-memory : goal.returns-in_err-give_back-clause-memory
returns-in_err-give_back-clause-memory g c =
    let p = err_from_is_err_and c.from_residual-in_err-give_back.result c.from_residual-in_err-give_back.ensures.1 in
    rw (p.1, p.2) c.in_err-give_back.ensures.memory

pub returns-in_err-process-clause-memory : goal.returns-in_err-process-clause-memory
returns-in_err-process-clause-memory g c =
    let p = err_from_is_err_and c.from_residual.result c.from_residual.ensures.1 in
    rw (p.1, p.2) c.in_err-process.ensures.memory
