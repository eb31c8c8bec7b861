use Rattle.std.proofs.Common.{◌≡◌, ◌+◌, take, drop, get_or, sym, ap, ◌∙◌, subst, Err, refl, arith}
use Rattle.std.proofs.lemmas.Result.{err_from_is_err_and, IfOk-from_err}
use Rattle.std.proofs.lemmas.List.{get_or_default}
use Rattle.rw_vt.specs.declared.refusal.Refusal.TheVariants.{Exhausted}
use Rattle.rw_vt.proofs.Laws.{laws_of}
use Rattle.rw_world.specs.declared.step.Step.{Step}
use Rattle.rw_world.specs.declared.step.Step.TheVariants.{Execute}
use Rattle.rw_world.specs.Calls.{Simulation, system_of, simulation_of, ExecutesAt, MeetsAt}
use Rattle.rw_world.proofs.Wholes.{world_in_order}
use Rattle.rw_world.proofs.Kept.{whole_after}
use Rattle.rw_world.proofs.Runs.{parted_at, all_run, all_answers, run_next, answers_next}
use Rattle.rw_world.proofs.world.World.run_steps.Goals as goal

pub returns-in_err-make-clause-exhausted : goal.returns-in_err-make-clause-exhausted
returns-in_err-make-clause-exhausted g c = λ e.
    let x = c.self.inside.parts in
    let steps = c.args.steps.now in
    let k = c.loop-step.step-index in
    let s : Step = get_or steps k (Execute 0) in
    let read : s ≡ get_or steps k s = get_or_default steps k (Execute 0) s c.loop-step-test.true in
    let y = system_of g.M.Model g.M.Body.Ord.cmp (simulation_of x) in
    let p = err_from_is_err_and c.from_residual-in_err-make.result c.from_residual-in_err-make.ensures.1 in
    let same : Err p.0 ≡ Err Exhausted = sym p.1 ∙ e in
    let cause : p.0 ≡ Exhausted = cc in
    let here = c.in_err-make.ensures.exhausted (ap Err (sym p.2 ∙ cause)) in
    let there = subst (λ (v : Simulation g.row.M.Denot g.row.M-State.Denot g.row.M-Body.Denot). ExecutesAt y.rules.order v.world (g.M.Model.is_exhausted v.model) s) c.loop-step.invariant.went here in
    subst (λ (v : Simulation g.row.M.Denot g.row.M-State.Denot g.row.M-Body.Denot). MeetsAt (system_of g.M.Model g.M.Body.Ord.cmp v) v.world (g.M.Model.is_exhausted v.model) steps) c.self.view_is
    (record { before = take k steps; step = s; rest = drop (k + 1) steps; steps_are = parted_at steps k s c.loop-step-test.true read; executes = there })

pub loop-step-preserved : goal.loop-step-preserved
loop-step-preserved g c =
    let laws = laws_of g.met.M.Model g.met.M.Body.Ord.total in
    let x = c.self.inside.parts in
    let now = c.loop-step.parts in
    let next = c.make.new.self in
    let steps = c.args.steps.now in
    let k = c.loop-step.step-index in
    let within = c.loop-step-test.true in
    let s : Step = get_or steps k (Execute 0) in
    let read : s ≡ get_or steps k s = get_or_default steps k (Execute 0) s within in
    let known = c.loop-step.invariant in
    let made = c.in_ok-make.ensures.made in
    record {
      whole = whole_after laws now next known.whole s c.in_ok-make.field-0 made;
      went = run_next g.M.Model g.M.Body.Ord.cmp x (simulation_of now) (simulation_of next) steps k s within read known.went made.world;
      told = answers_next g.M.Model g.M.Body.Ord.cmp x (simulation_of now) (simulation_of next) steps k s within read known.went c.loop-step.answers.items c.push.new.self.items c.in_ok-make.field-0 known.told made.answered c.in_ok-push.ensures.items;
    }

pub returns-clause-in_order : goal.returns-clause-in_order
returns-clause-in_order g c =
    let laws = laws_of g.met.M.Model g.met.M.Body.Ord.total in
    let whole = c.loop-step.invariant.whole in
    world_in_order laws (simulation_of c.loop-step.parts) whole.ready whole.sound

pub loop-step-init : goal.loop-step-init
loop-step-init g c = record { whole = c.self.invariant; went = refl; told = c.in_ok-answers.ensures.items }

pub returns-clause-world : goal.returns-clause-world
returns-clause-world g c = all_run g.M.Model g.M.Body.Ord.cmp c.self.inside.parts c.args.self c.self.view_is c.args.steps.now c.loop-step.step-index (omega arith) (simulation_of c.loop-step.parts) c.loop-step.invariant.went

pub returns-clause-answers : goal.returns-clause-answers
returns-clause-answers g c = all_answers g.M.Model g.M.Body.Ord.cmp c.self.inside.parts c.args.self c.self.view_is c.args.steps.now c.loop-step.step-index (omega arith) c.loop-step.answers.items c.loop-step.invariant.told

pub returns-clause-sound : goal.returns-clause-sound
returns-clause-sound g c = c.loop-step.invariant.whole.sound

pub invariant_of-result : goal.invariant_of-result
invariant_of-result g c = c.loop-step.invariant.whole

pub returns-in_err-answers : goal.returns-in_err-answers
returns-in_err-answers g c =
    let err = c.from_residual.ensures.0 in
    let p = err_from_is_err_and c.from_residual.result c.from_residual.ensures.1 in
    record { world = IfOk-from_err _ _ err; answers = IfOk-from_err _ _ err; sound = IfOk-from_err _ _ err; in_order = IfOk-from_err _ _ err; exhausted = rw (p.1, p.2) (λ e. cc) }

pub returns-in_err-push : goal.returns-in_err-push
returns-in_err-push g c =
    let err = c.from_residual-in_err-push.ensures.0 in
    let p = err_from_is_err_and c.from_residual-in_err-push.result c.from_residual-in_err-push.ensures.1 in
    record { world = IfOk-from_err _ _ err; answers = IfOk-from_err _ _ err; sound = IfOk-from_err _ _ err; in_order = IfOk-from_err _ _ err; exhausted = rw (p.1, p.2) (λ e. cc) }

pub returns-in_err-make-clause-world : goal.returns-in_err-make-clause-world
returns-in_err-make-clause-world g c = IfOk-from_err c.from_residual-in_err-make.result _ c.from_residual-in_err-make.ensures.0

pub returns-in_err-make-clause-answers : goal.returns-in_err-make-clause-answers
returns-in_err-make-clause-answers g c = IfOk-from_err c.from_residual-in_err-make.result _ c.from_residual-in_err-make.ensures.0

pub returns-in_err-make-clause-sound : goal.returns-in_err-make-clause-sound
returns-in_err-make-clause-sound g c = IfOk-from_err c.from_residual-in_err-make.result _ c.from_residual-in_err-make.ensures.0

pub returns-in_err-make-clause-in_order : goal.returns-in_err-make-clause-in_order
returns-in_err-make-clause-in_order g c = IfOk-from_err c.from_residual-in_err-make.result _ c.from_residual-in_err-make.ensures.0

pub make-requires : goal.make-requires
make-requires g c = record { whole = c.loop-step.invariant.whole }

pub returns-clause-exhausted : goal.returns-clause-exhausted
returns-clause-exhausted g c = λ e. cc
