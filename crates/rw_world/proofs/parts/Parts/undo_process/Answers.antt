use Rattle.std.proofs.Common.{◌<◌, length, sym, ◌∙◌, arith}
use Rattle.rw_vt.proofs.Laws.{laws_of}
use Rattle.rw_world.specs.declared.step.Step.TheVariants.{Undo}
use Rattle.rw_world.proofs.Kept.{whole_after}
use Rattle.rw_world.proofs.Undoing.{undo_one_run, undo_keeps, undo_fewer, one_run_chain, stands_at, some_left, none_left, one_run_itself}
use Rattle.std.proofs.lemmas.Result.{err_from_is_err_and, IfOk-from_err}
use Rattle.rw_world.proofs.parts.Parts.undo_process.Goals as goal

pub undoing-smaller : goal.undoing-smaller
undoing-smaller g c =
    let x = c.undoing.self in
    let l = c.index.result.now in
    let inside : c.args.p < length x.processes.items = omega (arith, c.undoing.invariant.run.count, c.requires.there) in
    undo_fewer g.M.Model g.M.Body.Ord.cmp x c.undo.new.self c.args.p c.in_ok-_answer._answer c.in_ok-_answer.ensures.made l.process
    (stands_at x c.args.p l inside c.index.ensures c.processed.result.now c.processed.ensures)
    (some_left x c.args.p l inside c.index.ensures c.processed.result.now c.processed.ensures (sym c.is_empty.ensures ∙ c.undoing-test.true))

pub undoing-preserved : goal.undoing-preserved
undoing-preserved g c =
    let laws = laws_of g.met.M.Model g.met.M.Body.Ord.total in
    let x = c.undoing.self in
    let z = c.undo.new.self in
    let made = c.in_ok-_answer.ensures.made in
    let known = c.undoing.invariant in
    record {
      whole = whole_after laws x z known.whole (Undo c.args.p) c.in_ok-_answer._answer made;
      run = one_run_chain c.args.self.now x z known.run (undo_one_run g.M.Model g.M.Body.Ord.cmp x z c.args.p c.in_ok-_answer._answer made);
      others = λ q ne none. undo_keeps g.M.Model g.M.Body.Ord.cmp x z c.args.p c.in_ok-_answer._answer made q ne (known.others q ne none);
    }

pub returns-clause-none : goal.returns-clause-none
returns-clause-none g c =
    let x = c.undoing.self in
    let inside : c.args.p < length x.processes.items = omega (arith, c.undoing.invariant.run.count, c.requires.there) in
    none_left x c.args.p c.index.result.now inside c.index.ensures c.processed.result.now c.processed.ensures (sym c.is_empty.ensures ∙ c.undoing-test.false)

pub returns-in_err-_answer : goal.returns-in_err-_answer
returns-in_err-_answer g c =
    let err = c.from_residual.ensures.0 in
    let p = err_from_is_err_and c.from_residual.result c.from_residual.ensures.1 in
    record { whole = IfOk-from_err _ _ err; run = IfOk-from_err _ _ err; others = IfOk-from_err _ _ err; none = IfOk-from_err _ _ err; memory = rw (p.1, p.2) c.in_err-_answer.ensures.memory }

pub undoing-init : goal.undoing-init
undoing-init g c = record { whole = c.requires.whole; run = one_run_itself c.args.self.now; others = λ q ne none. none }
