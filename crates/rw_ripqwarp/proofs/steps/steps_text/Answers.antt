use Rattle.std.proofs.Common.{ℕ, List, ◌∙◌, ap}
use Rattle.std.proofs.lemmas.Result.{IfOk-from_err}
use Rattle.std.specs.Prelude.{◌≢◌}
use Rattle.rw_report.specs.declared.sim_fault.SimFault.TheVariants as sim
use Rattle.rw_photo.specs.Cache.{Cache}
use Rattle.rw_report.proofs.Failing.{handed-on}
use Rattle.rw_report.proofs.Runs.{ready-at}
use Rattle.rw_report.specs.Journal.{journal_text}
use Rattle.rw_ripqwarp.specs.declared.mode.Mode.TheVariants.{Journal}
use Rattle.rw_ripqwarp.specs.Simulate.{IsRunFault}
use Rattle.rw_ripqwarp.proofs.Failing.{beginning-fault, beginning-unwritten, stop-unwritten}
use Rattle.rw_ripqwarp.proofs.Stepping.{journaled, stop-is-fault-by-steps}
use Rattle.rw_ripqwarp.proofs.steps.steps_text.Goals as goal

pub run_by_steps-requires : goal.run_by_steps-requires
run_by_steps-requires g c =
    ready-at c.args.config.now c.new-photo.result c.in_ok-states.states.items c.in_ok-states.initial.items c.new-photo.ensures c.in_ok-states.ensures.beginning.ready

pub returns-clause-fault : goal.returns-clause-fault
returns-clause-fault g c =
    stop-is-fault-by-steps c.args.config.now c.new-photo.result c.args.bytes.now c.in_ok-states.states.items c.in_ok-states.initial.items c.args.steps c.deref.result.now c.in-Err.stop c.why_it_stopped.result
    c.new-photo.ensures c.in_ok-states.ensures.beginning c.deref.ensures.value c.in-Err.ensures.stops c.why_it_stopped.ensures

pub returns-clause-unwritten : goal.returns-clause-unwritten
returns-clause-unwritten g c = stop-unwritten c.in-Err.stop c.why_it_stopped.result c.why_it_stopped.ensures

pub returns-in-Ok-clause-text : goal.returns-in-Ok-clause-text
returns-in-Ok-clause-text g c =
    let world = c.in-Ok.world in
    let text : List ℕ = c.in_ok-text-in-Ok.text.items in
    journaled c.args.config.now c.new-photo.result c.args.bytes.now text c.in_ok-states.states.items c.in_ok-states.initial.items c.args.steps.items c.deref.result.now world c.in-Ok.answers.items c.new-photo.ensures c.in_ok-states.ensures.beginning c.deref.ensures.value c.in-Ok.ensures.stepped
    (c.in_ok-text-in-Ok.ensures ∙ ap (λ ws. journal_text ws world.world) c.as_slice-in-Ok.ensures.value)

pub returns-in_err-states-clause-text : goal.returns-in_err-states-clause-text
returns-in_err-states-clause-text g c = IfOk-from_err c.from_residual.result _ c.from_residual.ensures.0

pub returns-in_err-states-clause-fault : goal.returns-in_err-states-clause-fault
returns-in_err-states-clause-fault g c =
    handed-on c.from_residual.result c.in_err-states.field-0.0 (IsRunFault (Journal c.args.steps) c.args.config.now c.args.bytes.now) c.from_residual.ensures.1
    (beginning-fault (Journal c.args.steps) c.args.config.now c.args.bytes.now c.in_err-states.field-0.0 c.in_err-states.ensures.fault)

pub returns-in_err-states-clause-unwritten : goal.returns-in_err-states-clause-unwritten
returns-in_err-states-clause-unwritten g c =
    handed-on c.from_residual.result c.in_err-states.field-0.0 (λ e. e ≢ sim.Output) c.from_residual.ensures.1
    (beginning-unwritten c.args.config.now c.args.bytes.now c.in_err-states.field-0.0 c.in_err-states.ensures.fault)

pub returns-in_err-text-in-Ok-clause-text : goal.returns-in_err-text-in-Ok-clause-text
returns-in_err-text-in-Ok-clause-text g c = IfOk-from_err c.from_residual-in_err-text-in-Ok.result _ c.from_residual-in_err-text-in-Ok.ensures.0

pub returns-in_err-text-in-Ok-clause-fault : goal.returns-in_err-text-in-Ok-clause-fault
returns-in_err-text-in-Ok-clause-fault g c = handed-on c.from_residual-in_err-text-in-Ok.result sim.Memory (IsRunFault (Journal c.args.steps) c.args.config.now c.args.bytes.now) c.from_residual-in_err-text-in-Ok.ensures.1 tt

pub returns-in_err-text-in-Ok-clause-unwritten : goal.returns-in_err-text-in-Ok-clause-unwritten
returns-in_err-text-in-Ok-clause-unwritten g c = handed-on c.from_residual-in_err-text-in-Ok.result sim.Memory (λ e. e ≢ sim.Output) c.from_residual-in_err-text-in-Ok.ensures.1 (λ same. cc)
