use Rattle.std.proofs.Common.{◌≡◌, refl, arith}
use Rattle.std.proofs.lemmas.Result.{IfOk-from_err, err_from_is_err_and}
use Rattle.std.specs.Prelude.{◌≢◌}
use Rattle.rw_report.specs.declared.sim_fault.SimFault.TheVariants as sim
use Rattle.rw_report.specs.Replay.{IsWritingFault}
use Rattle.rw_report.proofs.Failing.{handed-on}
use Rattle.rw_report.proofs.Refused.{before-writing, replay-unwritten}
use Rattle.rw_report.proofs.running.replay.Goals as goal

-- the writer failed: there is no report, and there was a failure more
pub returns-clause-report : goal.returns-clause-report
returns-clause-report g c = tt

pub returns-clause-fault : goal.returns-clause-fault
returns-clause-fault g c = tt

pub returns-clause-output : goal.returns-clause-output
returns-clause-output g c = (λ _ same. omega (arith, c.if-write_text.ensures.failures, same), λ _. refl)

pub returns-in_err-text-clause-report : goal.returns-in_err-text-clause-report
returns-in_err-text-clause-report g c = IfOk-from_err c.from_residual.result _ c.from_residual.ensures.0

pub returns-in_err-text-clause-fault : goal.returns-in_err-text-clause-fault
returns-in_err-text-clause-fault g c =
    handed-on c.from_residual.result c.in_err-text.field-0.0 (IsWritingFault c.args.config.now c.args.bytes.now) c.from_residual.ensures.1
    (before-writing c.args.config.now c.args.bytes.now c.in_err-text.field-0.0 c.in_err-text.ensures.fault)

-- no fault before the text is there is a writer's
pub returns-in_err-text-clause-output : goal.returns-in_err-text-clause-output
returns-in_err-text-clause-output g c =
    let p = err_from_is_err_and c.from_residual.result c.from_residual.ensures.1 in
    let other = replay-unwritten c.args.config.now c.args.bytes.now c.in_err-text.field-0.0 c.in_err-text.ensures.fault in
    (λ failed. let made = p.1 in let handed = p.2 in absurd (other cc), λ more. absurd (more refl))

pub returns-in_err-text-clause-cut_off : goal.returns-in_err-text-clause-cut_off
returns-in_err-text-clause-cut_off g c =
    let p = err_from_is_err_and c.from_residual.result c.from_residual.ensures.1 in
    let other = replay-unwritten c.args.config.now c.args.bytes.now c.in_err-text.field-0.0 c.in_err-text.ensures.fault in
    (λ failed. let made = p.1 in let handed = p.2 in absurd (other cc))

pub returns-in_err-text-clause-nothing : goal.returns-in_err-text-clause-nothing
returns-in_err-text-clause-nothing g c =
    handed-on c.from_residual.result c.in_err-text.field-0.0 (λ e. e ≢ sim.Output → c.args.out.now ≡ c.args.out.now) c.from_residual.ensures.1 (λ _. refl)
