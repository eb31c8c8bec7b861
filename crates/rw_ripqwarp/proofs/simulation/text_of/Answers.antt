use Rattle.std.proofs.Common.{sym, subst}
use Rattle.std.proofs.lemmas.Result.{IfOk-from_err}
use Rattle.std.specs.Prelude.{◌≢◌, IfErr, IfOk, OnOk}
use Rattle.rw_report.specs.declared.sim_fault.SimFault.TheVariants as sim
use Rattle.rw_report.proofs.Failing.{handed-on}
use Rattle.rw_report.proofs.Refused.{replay-unwritten}
use Rattle.rw_ripqwarp.specs.declared.mode.Mode.{Mode}
use Rattle.rw_ripqwarp.specs.Simulate.{HasGoodPlan, IsRunFault, IsTextOf}
use Rattle.rw_ripqwarp.proofs.Failing.{replay-fault}
use Rattle.rw_ripqwarp.proofs.simulation.text_of.Goals as goal

pub returns-in_err-text-in-Serial-clause-text : goal.returns-in_err-text-in-Serial-clause-text
returns-in_err-text-in-Serial-clause-text g c = IfOk-from_err c.from_residual.result _ c.from_residual.ensures.0

pub returns-in_err-text-in-Serial-clause-still : goal.returns-in_err-text-in-Serial-clause-still
returns-in_err-text-in-Serial-clause-still g c = IfOk-from_err c.from_residual.result _ c.from_residual.ensures.0

pub returns-in_err-text-in-Serial-clause-in_range : goal.returns-in_err-text-in-Serial-clause-in_range
returns-in_err-text-in-Serial-clause-in_range g c = IfOk-from_err c.from_residual.result _ c.from_residual.ensures.0

pub returns-in_err-text-in-Journal-clause-text : goal.returns-in_err-text-in-Journal-clause-text
returns-in_err-text-in-Journal-clause-text g c = IfOk-from_err c.from_residual-in_err-text-in-Journal.result _ c.from_residual-in_err-text-in-Journal.ensures.0

pub returns-in_err-text-in-Journal-clause-still : goal.returns-in_err-text-in-Journal-clause-still
returns-in_err-text-in-Journal-clause-still g c = IfOk-from_err c.from_residual-in_err-text-in-Journal.result _ c.from_residual-in_err-text-in-Journal.ensures.0

pub returns-in_err-text-in-Journal-clause-in_range : goal.returns-in_err-text-in-Journal-clause-in_range
returns-in_err-text-in-Journal-clause-in_range g c = IfOk-from_err c.from_residual-in_err-text-in-Journal.result _ c.from_residual-in_err-text-in-Journal.ensures.0

pub returns-in_err-text-in-Journal-clause-fault : goal.returns-in_err-text-in-Journal-clause-fault
returns-in_err-text-in-Journal-clause-fault g c =
    handed-on c.from_residual-in_err-text-in-Journal.result c.in_err-text-in-Journal.field-0.0 (IsRunFault c.args.run.mode c.args.run.config.now c.args.run.bytes.now) c.from_residual-in_err-text-in-Journal.ensures.1
    (subst (λ (mode : Mode). IsRunFault mode c.args.run.config.now c.args.run.bytes.now c.in_err-text-in-Journal.field-0.0) (sym c.in-Journal.is) c.in_err-text-in-Journal.ensures.fault)

pub returns-in_err-text-in-Journal-clause-unwritten : goal.returns-in_err-text-in-Journal-clause-unwritten
returns-in_err-text-in-Journal-clause-unwritten g c =
    handed-on c.from_residual-in_err-text-in-Journal.result c.in_err-text-in-Journal.field-0.0 (λ e. e ≢ sim.Output) c.from_residual-in_err-text-in-Journal.ensures.1 c.in_err-text-in-Journal.ensures.unwritten

pub returns-in_err-text-in-Serial-clause-fault : goal.returns-in_err-text-in-Serial-clause-fault
returns-in_err-text-in-Serial-clause-fault g c =
    handed-on c.from_residual.result c.in_err-text-in-Serial.field-0.0 (IsRunFault c.args.run.mode c.args.run.config.now c.args.run.bytes.now) c.from_residual.ensures.1
    (subst (λ (mode : Mode). IsRunFault mode c.args.run.config.now c.args.run.bytes.now c.in_err-text-in-Serial.field-0.0) (sym c.in-Serial.is)
    (replay-fault c.args.run.config.now c.args.run.bytes.now c.in_err-text-in-Serial.field-0.0 c.in_err-text-in-Serial.ensures.fault))

pub returns-in_err-text-in-Serial-clause-unwritten : goal.returns-in_err-text-in-Serial-clause-unwritten
returns-in_err-text-in-Serial-clause-unwritten g c =
    handed-on c.from_residual.result c.in_err-text-in-Serial.field-0.0 (λ e. e ≢ sim.Output) c.from_residual.ensures.1
    (replay-unwritten c.args.run.config.now c.args.run.bytes.now c.in_err-text-in-Serial.field-0.0 c.in_err-text-in-Serial.ensures.fault)

pub returns-in-Warp-clause-text : goal.returns-in-Warp-clause-text
returns-in-Warp-clause-text g c =
    subst (λ (mode : Mode). IfOk c.rounds_text.result (λ r. IsTextOf mode c.args.run.config.now c.args.run.bytes.now r.0.items)) (sym c.in-Warp.is) c.rounds_text.ensures.text

pub returns-in-Warp-clause-in_range : goal.returns-in-Warp-clause-in_range
returns-in-Warp-clause-in_range g c = subst (λ (mode : Mode). OnOk c.rounds_text.result (HasGoodPlan mode)) (sym c.in-Warp.is) c.rounds_text.ensures.in_range

pub returns-in-Warp-clause-fault : goal.returns-in-Warp-clause-fault
returns-in-Warp-clause-fault g c =
    subst (λ (mode : Mode). IfErr c.rounds_text.result (IsRunFault mode c.args.run.config.now c.args.run.bytes.now)) (sym c.in-Warp.is) c.rounds_text.ensures.fault

pub returns-in-Warp-clause-unwritten : goal.returns-in-Warp-clause-unwritten
returns-in-Warp-clause-unwritten g c = c.rounds_text.ensures.unwritten
