use Rattle.std.proofs.Common.{◌≡◌, ◌≤◌, ◌<◌, ◌++◌, sym, subst, ◌∙◌, ap, arith, append-nil, inr}
use Rattle.std.specs.Prelude.{All}
use Rattle.std.proofs.lemmas.Result.{err_from_is_err_and}
use Rattle.rw_vt.specs.Moments.{HasReached}
use Rattle.rw_vt.specs.System.{IsReady, Meets}
use Rattle.rw_serial.proofs.Permuted.{ready_permuted}
use Rattle.rw_photo.specs.contracts.photo.PhotoVtModel.TheImpl as model
use Rattle.rw_photo.specs.Cache.{is_exhausted}
use Rattle.rw_photo.specs.Simulation.{simulation}
use Rattle.rw_report.specs.Run.{IsRunOn, RunState}
use Rattle.rw_report.proofs.Failing.{only_memory}
use Rattle.rw_report.proofs.Taking.{caches, goes_on, meets_on}
use Rattle.rw_report.proofs.run.Run.run_until.Goals as goal

pub run_until-requires : goal.run_until-requires
run_until-requires c =
    let was = c.self.inside in
    record {
      ready = ready_permuted model.ghosts was.photo was.states.items (was.pending.events ++ was.first.items) c.hand_over.new.pending.events c.in_ok-hand_over.ensures.moved c.self.invariant.0;
    }

pub returns-in_err-hand_over-clause-exhausted : goal.returns-in_err-hand_over-clause-exhausted
returns-in_err-hand_over-clause-exhausted c = only_memory c.from_residual.result _ c.from_residual.ensures.1

pub returns-in_err-run_until-clause-exhausted : goal.returns-in_err-run_until-clause-exhausted
returns-in_err-run_until-clause-exhausted c =
    let was = c.self.inside in
    let r : RunState = record { config = was.photo.config; time = was.time; taken = was.taken; states = was.states.items; waiting = was.pending.events ++ was.first.items } in
    let later = subst (λ (v : RunState). v.time ≤ c.args.until) (sym c.self.view_is) c.requires in
    let p = err_from_is_err_and c.from_residual-in_err-run_until.result c.from_residual-in_err-run_until.ensures.1 in
    rw (p.1, p.2) (λ e rows run.
    subst (λ (v : RunState). Meets (simulation v.config rows) c.args.until is_exhausted) c.self.view_is
    (meets_on r rows c.hand_over.new.pending.events c.args.until (subst (IsRunOn rows) (sym c.self.view_is) run) c.in_ok-hand_over.ensures.moved later (c.in_err-run_until.ensures.exhausted e)))

pub returns-clause-reached : goal.returns-clause-reached
returns-clause-reached c = λ rows run.
    let was = c.self.inside in
    let r : RunState = record { config = was.photo.config; time = was.time; taken = was.taken; states = was.states.items; waiting = was.pending.events ++ was.first.items } in
    let later = subst (λ (v : RunState). v.time ≤ c.args.until) (sym c.self.view_is) c.requires in
    let left = c.run_until.new.pending.events in
    let same : left ++ c.new.result.items ≡ left = ap (λ l. left ++ l) c.new.ensures.items ∙ append-nil left in
    goes_on r rows c.hand_over.new.pending.events (left ++ c.new.result.items) c.run_until.new.states.items c.args.until (subst (IsRunOn rows) (sym c.self.view_is) run) c.in_ok-hand_over.ensures.moved later
    (subst (HasReached (caches was.photo was.states.items c.hand_over.new.pending.events) c.args.until c.run_until.new.states.items) (sym same) c.in_ok-run_until.ensures.reached)

pub invariant_of-result : goal.invariant_of-result
invariant_of-result c =
    let was = c.self.inside in
    let later = subst (λ (v : RunState). v.time ≤ c.args.until) (sym c.self.view_is) c.requires in
    let left = c.run_until.new.pending.events in
    let same : left ++ c.new.result.items ≡ left = ap (λ l. left ++ l) c.new.ensures.items ∙ append-nil left in
    let some : 0 < c.args.until = omega (arith, c.if-until-eq0.false) in (
      subst (IsReady model.ghosts was.photo c.run_until.new.states.items) (sym same) c.in_ok-run_until.ensures.ready,
      subst (All (λ e. c.args.until ≤ e.time)) (sym same) c.in_ok-run_until.ensures.late,
      inr (c.in_ok-run_until.ensures.before (c.in_ok-hand_over.ensures.before c.args.until later some), c.new.ensures.items),
    )
