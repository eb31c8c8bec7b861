use Rattle.std.proofs.Common.{◌≡◌, sym, ◌∙◌, subst, ap, Err}
use Rattle.std.specs.Prelude.{◌↔◌}
use Rattle.rw_vt.specs.Order.{event_cmp}
use Rattle.rw_vt.proofs.Laws.{laws_of}
use Rattle.rw_lp.specs.declared.answer.Answer.TheVariants.{Refused}
use Rattle.rw_world.specs.Faults.{Applies}
use Rattle.rw_world.specs.Calls.{Simulation, system_of, simulation_of, world_of, ExecutesAt}
use Rattle.rw_world.proofs.Exactly.{exactly}
use Rattle.rw_world.proofs.Wholes.{letters_inside}
use Rattle.rw_world.proofs.Kept.{whole_after, refused_same}
use Rattle.rw_world.specs.Calls.{with_world, step_from}
use Rattle.std.proofs.lemmas.Result.{err_from_is_err_and, IfOk-from_err}
use Rattle.rw_vt.specs.declared.refusal.Refusal.TheVariants.{Exhausted}
use Rattle.rw_world.proofs.world.World.apply.Goals as goal

pub invariant_of-result : goal.invariant_of-result
invariant_of-result g c =
    let laws = laws_of g.met.M.Model g.met.M.Body.Ord.total in
    whole_after laws c.self.inside.parts c.make.new.self c.self.invariant c.args.step c.in_ok-answer.answer c.in_ok-answer.ensures.made

pub returns-clause-refused : goal.returns-clause-refused
returns-clause-refused g c = λ fault refusal. refused_same g.M.Model g.M.Body.Ord.cmp c.self.inside.parts c.make.new.self c.args.step c.in_ok-answer.answer c.in_ok-answer.ensures.made fault refusal ∙ c.self.view_is

pub returns-clause-sound : goal.returns-clause-sound
returns-clause-sound g c =
    let laws = laws_of g.met.M.Model g.met.M.Body.Ord.total in
    (whole_after laws c.self.inside.parts c.make.new.self c.self.invariant c.args.step c.in_ok-answer.answer c.in_ok-answer.ensures.made).sound

pub returns-clause-exactly : goal.returns-clause-exactly
returns-clause-exactly g c = λ fault.
    let laws = laws_of g.met.M.Model g.met.M.Body.Ord.total in
    let x = c.self.inside.parts in
    let where_it_applies = exactly (system_of g.M.Model g.M.Body.Ord.cmp (simulation_of x)) (world_of x) (letters_inside laws x c.self.invariant) c.args.step fault in
    subst (λ (v : Simulation g.row.M.Denot g.row.M-State.Denot g.row.M-Body.Denot). (c.in_ok-answer.answer ≡ Refused fault) ↔ Applies (event_cmp g.M.Body.Ord.cmp) v.world c.args.step fault) c.self.view_is
    (subst (λ a. (a ≡ Refused fault) ↔ Applies (event_cmp g.M.Body.Ord.cmp) (world_of x) c.args.step fault) (sym c.in_ok-answer.ensures.made.answered) where_it_applies)

pub returns-clause-world : goal.returns-clause-world
returns-clause-world g c =
    subst (λ (v : Simulation g.row.M.Denot g.row.M-State.Denot g.row.M-Body.Denot). simulation_of c.make.new.self ≡ with_world v (step_from g.M.Model g.M.Body.Ord.cmp v c.args.step).0) c.self.view_is c.in_ok-answer.ensures.made.world

pub returns-clause-answer : goal.returns-clause-answer
returns-clause-answer g c =
    subst (λ (v : Simulation g.row.M.Denot g.row.M-State.Denot g.row.M-Body.Denot). c.in_ok-answer.answer ≡ (step_from g.M.Model g.M.Body.Ord.cmp v c.args.step).1) c.self.view_is c.in_ok-answer.ensures.made.answered

pub returns-in_err-answer-clause-exhausted : goal.returns-in_err-answer-clause-exhausted
returns-in_err-answer-clause-exhausted g c = λ e.
    let p = err_from_is_err_and c.from_residual.result c.from_residual.ensures.1 in
    let same : Err p.0 ≡ Err Exhausted = sym p.1 ∙ e in
    let cause : p.0 ≡ Exhausted = cc in
    subst (λ (v : Simulation g.row.M.Denot g.row.M-State.Denot g.row.M-Body.Denot). ExecutesAt (event_cmp g.M.Body.Ord.cmp) v.world (g.M.Model.is_exhausted v.model) c.args.step) c.self.view_is
    (c.in_err-answer.ensures.exhausted (ap Err (sym p.2 ∙ cause)))

pub returns-in_err-answer-clause-world : goal.returns-in_err-answer-clause-world
returns-in_err-answer-clause-world g c = IfOk-from_err c.from_residual.result _ c.from_residual.ensures.0

pub returns-in_err-answer-clause-answer : goal.returns-in_err-answer-clause-answer
returns-in_err-answer-clause-answer g c = IfOk-from_err c.from_residual.result _ c.from_residual.ensures.0

pub returns-in_err-answer-clause-refused : goal.returns-in_err-answer-clause-refused
returns-in_err-answer-clause-refused g c = IfOk-from_err c.from_residual.result _ c.from_residual.ensures.0

pub returns-in_err-answer-clause-exactly : goal.returns-in_err-answer-clause-exactly
returns-in_err-answer-clause-exactly g c = IfOk-from_err c.from_residual.result _ c.from_residual.ensures.0

pub returns-in_err-answer-clause-sound : goal.returns-in_err-answer-clause-sound
returns-in_err-answer-clause-sound g c = IfOk-from_err c.from_residual.result _ c.from_residual.ensures.0

pub returns-clause-exhausted : goal.returns-clause-exhausted
returns-clause-exhausted g c = λ e. cc

pub make-requires : goal.make-requires
make-requires g c = record { whole = c.self.invariant }
