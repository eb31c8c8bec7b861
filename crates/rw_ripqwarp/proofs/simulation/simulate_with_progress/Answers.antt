use Rattle.std.proofs.Common.{◌≡◌, refl, arith}
use Rattle.std.proofs.lemmas.Result.{IfOk-from_err, err_from_is_err_and}
use Rattle.std.specs.Prelude.{◌≢◌}
use Rattle.rw_report.specs.declared.sim_fault.SimFault.TheVariants as sim
use Rattle.rw_report.proofs.Failing.{handed-on}
use Rattle.rw_ripqwarp.specs.Simulate.{IsRunFault}
use Rattle.rw_ripqwarp.proofs.simulation.simulate_with_progress.Goals as goal

-- the writer failed: there is no report, and there was a failure more
pub returns-clause-report : goal.returns-clause-report
returns-clause-report g c = tt

pub returns-clause-output : goal.returns-clause-output
returns-clause-output g c = (λ _ same. omega (arith, c.if-write_text.ensures.failures, same), λ _. refl)

pub returns-in_err-text-clause-report : goal.returns-in_err-text-clause-report
returns-in_err-text-clause-report g c = IfOk-from_err c.from_residual.result _ c.from_residual.ensures.0

pub returns-in_err-text-clause-still : goal.returns-in_err-text-clause-still
returns-in_err-text-clause-still g c = IfOk-from_err c.from_residual.result _ c.from_residual.ensures.0

pub returns-in_err-text-clause-in_range : goal.returns-in_err-text-clause-in_range
returns-in_err-text-clause-in_range g c = IfOk-from_err c.from_residual.result _ c.from_residual.ensures.0

pub returns-in_err-text-clause-fault : goal.returns-in_err-text-clause-fault
returns-in_err-text-clause-fault g c = handed-on c.from_residual.result c.in_err-text.field-0.0 (IsRunFault c.args.run.mode c.args.run.config.now c.args.run.bytes.now) c.from_residual.ensures.1 c.in_err-text.ensures.fault

pub returns-then-write_text-clause-still : goal.returns-then-write_text-clause-still
returns-then-write_text-clause-still g c = c.in_ok-text.ensures.still

pub returns-then-write_text-clause-in_range : goal.returns-then-write_text-clause-in_range
returns-then-write_text-clause-in_range g c = c.in_ok-text.ensures.in_range

pub returns-clause-fault : goal.returns-clause-fault
returns-clause-fault g c = c.in_ok-text.ensures.in_range

-- no fault before the text is there is a writer's
pub returns-in_err-text-clause-output : goal.returns-in_err-text-clause-output
returns-in_err-text-clause-output g c =
    let p = err_from_is_err_and c.from_residual.result c.from_residual.ensures.1 in
    let other = c.in_err-text.ensures.unwritten in
    (λ failed. let made = p.1 in let handed = p.2 in absurd (other cc), λ more. absurd (more refl))

pub returns-in_err-text-clause-cut_off : goal.returns-in_err-text-clause-cut_off
returns-in_err-text-clause-cut_off g c =
    let p = err_from_is_err_and c.from_residual.result c.from_residual.ensures.1 in
    let other = c.in_err-text.ensures.unwritten in
    (λ failed. let made = p.1 in let handed = p.2 in absurd (other cc))

pub returns-in_err-text-clause-nothing : goal.returns-in_err-text-clause-nothing
returns-in_err-text-clause-nothing g c =
    handed-on c.from_residual.result c.in_err-text.field-0.0 (λ e. e ≢ sim.Output → c.args.out.now ≡ c.args.out.now) c.from_residual.ensures.1 (λ _. refl)
