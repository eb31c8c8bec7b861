use Rattle.rw_vt.proofs.Laws.{laws_of}
use Rattle.rw_world.proofs.Handing.{enough_there, left_ready, left_rest}
use Rattle.std.proofs.lemmas.Result.{err_from_is_err_and, IfOk-from_err}
use Rattle.std.proofs.Common.{refl, ap, ◌∙◌}
use Rattle.rw_world.proofs.world.World.into_rest.Goals as goal

pub without_owed-requires : goal.without_owed-requires
without_owed-requires g c =
    let laws = laws_of g.met.M.Model g.met.M.Body.Ord.total in
    let sorted = c.in_ok-sort_letters.ensures in
    let apart = c.in_ok-states.ensures in
    record {
      there = enough_there laws c.undo_all.new.self c.in_ok-undo_all.ensures.whole c.in_ok-undo_all.ensures.none
          c.new-there.result.items c.new-there.ensures.items c.new-owed.result.items c.new-owed.ensures.items c.as_slice.result.now c.as_slice.ensures.value
          c.sort_letters.new.there.items sorted.there c.sort_letters.new.owed.items sorted.owed c.take_apart.new.there.items apart.there c.take_apart.new.owed.items apart.owed;
    }

pub returns-clause-rest : goal.returns-clause-rest
returns-clause-rest g c =
    let laws = laws_of g.met.M.Model g.met.M.Body.Ord.total in
    let sorted = c.in_ok-sort_letters.ensures in
    let apart = c.in_ok-states.ensures in
    left_rest laws c.undo_all.new.self c.in_ok-undo_all.ensures.whole c.in_ok-undo_all.ensures.none
    c.new-there.result.items c.new-there.ensures.items c.new-owed.result.items c.new-owed.ensures.items c.as_slice.result.now c.as_slice.ensures.value
    c.sort_letters.new.there.items sorted.there c.sort_letters.new.owed.items sorted.owed c.take_apart.new.there.items apart.there c.take_apart.new.owed.items apart.owed
    c.in_ok-states.states.items apart.states c.in_ok-events.events.items c.in_ok-events.ensures.left c.args.self c.self.inside.parts c.self.view_is c.in_ok-undo_all.ensures.run

pub returns-clause-ready : goal.returns-clause-ready
returns-clause-ready g c =
    let laws = laws_of g.met.M.Model g.met.M.Body.Ord.total in
    let sorted = c.in_ok-sort_letters.ensures in
    let apart = c.in_ok-states.ensures in
    left_ready laws c.undo_all.new.self c.in_ok-undo_all.ensures.whole c.in_ok-undo_all.ensures.none
    c.new-there.result.items c.new-there.ensures.items c.new-owed.result.items c.new-owed.ensures.items c.as_slice.result.now c.as_slice.ensures.value
    c.sort_letters.new.there.items sorted.there c.sort_letters.new.owed.items sorted.owed c.take_apart.new.there.items apart.there c.take_apart.new.owed.items apart.owed
    c.in_ok-states.states.items apart.states c.in_ok-events.events.items c.in_ok-events.ensures.left

pub returns-in_err-undo_all : goal.returns-in_err-undo_all
returns-in_err-undo_all g c =
    let err = c.from_residual.ensures.0 in
    let p = err_from_is_err_and c.from_residual.result c.from_residual.ensures.1 in
    record { rest = IfOk-from_err _ _ err; ready = IfOk-from_err _ _ err; model = IfOk-from_err _ _ err; memory = rw (p.1, p.2) c.in_err-undo_all.ensures.memory }

pub returns-in_err-sort_letters : goal.returns-in_err-sort_letters
returns-in_err-sort_letters g c =
    let err = c.from_residual-in_err-sort_letters.ensures.0 in
    let p = err_from_is_err_and c.from_residual-in_err-sort_letters.result c.from_residual-in_err-sort_letters.ensures.1 in
    record { rest = IfOk-from_err _ _ err; ready = IfOk-from_err _ _ err; model = IfOk-from_err _ _ err; memory = rw (p.1, p.2) refl }

pub returns-in_err-states : goal.returns-in_err-states
returns-in_err-states g c =
    let err = c.from_residual-in_err-states.ensures.0 in
    let p = err_from_is_err_and c.from_residual-in_err-states.result c.from_residual-in_err-states.ensures.1 in
    record { rest = IfOk-from_err _ _ err; ready = IfOk-from_err _ _ err; model = IfOk-from_err _ _ err; memory = rw (p.1, p.2) refl }

pub returns-in_err-events : goal.returns-in_err-events
returns-in_err-events g c =
    let err = c.from_residual-in_err-events.ensures.0 in
    let p = err_from_is_err_and c.from_residual-in_err-events.result c.from_residual-in_err-events.ensures.1 in
    record { rest = IfOk-from_err _ _ err; ready = IfOk-from_err _ _ err; model = IfOk-from_err _ _ err; memory = rw (p.1, p.2) refl }

pub returns-clause-model : goal.returns-clause-model
returns-clause-model g c = c.in_ok-undo_all.ensures.run.model ∙ ap (λ v. v.model) c.self.view_is
