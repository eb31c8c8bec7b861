use Rattle.std.proofs.Common.{◌≡◌, ◌∙◌, ◌^◌, List, Ok, ap, length, map, subst}
use Rattle.std.proofs.lemmas.Result.{IfOk-from_err}
use Rattle.rw_vt.specs.Limits.{end_of_time}
use Rattle.rw_vt.specs.System.{IsOutcome, Meets}
use Rattle.rw_trace.specs.declared.Row.{Row}
use Rattle.rw_trace.specs.Trace.{trace_of}
use Rattle.rw_trace.specs.Unread.{records_of}
use Rattle.rw_report.specs.declared.sim_fault.SimFault.TheVariants as sim
use Rattle.rw_photo.specs.Cache.{Cache, is_exhausted}
use Rattle.rw_photo.specs.Simulation.{simulation}
use Rattle.rw_photo.specs.declared.config.Config.{Config}
use Rattle.rw_report.specs.Replay.{IsReplayFault}
use Rattle.rw_report.specs.Report.{report_text}
use Rattle.rw_report.proofs.Failing.{handed-on}
use Rattle.rw_report.proofs.Runs.{length-of-caches}
use Rattle.rw_report.proofs.Refused.{refusal-is-fault}
use Rattle.rw_report.proofs.running.report_of_trace.Goals as goal

pub report_of_states-requires : goal.report_of_states-requires
report_of_states-requires g c =
    let outcome = c.in_ok-states.ensures.outcome in
    ap length c.as_slice-2.ensures.value ∙ length-of-caches c.args.config.now c.as_slice.result.now outcome.0 c.in_ok-states.states.items outcome.1

pub returns-in_err-trace-clause-text : goal.returns-in_err-trace-clause-text
returns-in_err-trace-clause-text g c = IfOk-from_err c.from_residual.result _ c.from_residual.ensures.0

pub returns-in_err-states-clause-text : goal.returns-in_err-states-clause-text
returns-in_err-states-clause-text g c = IfOk-from_err c.from_residual-in_err-states.result _ c.from_residual-in_err-states.ensures.0

pub returns-in_err-report_of_states-clause-text : goal.returns-in_err-report_of_states-clause-text
returns-in_err-report_of_states-clause-text g c = IfOk-from_err c.from_residual-in_err-report_of_states.result _ c.from_residual-in_err-report_of_states.ensures.0

pub returns-in_err-states-clause-fault : goal.returns-in_err-states-clause-fault
returns-in_err-states-clause-fault g c =
    let config : Config = c.args.config.now in
    let rows : List Row = c.in_ok-trace.trace.items in
    refusal-is-fault c.from_residual-in_err-states.result c.in_err-states.field-0.0 config c.args.bytes.now c.from_residual-in_err-states.ensures.1
    (λ same. record {
      rows = rows;
      accepted = subst (λ n. trace_of n (2 ^ 24) (records_of c.args.bytes.now) ≡ Ok rows) c.edges.ensures c.in_ok-trace.ensures.rows;
      met = subst (λ rs. Meets (simulation config rs) end_of_time is_exhausted) c.as_slice.ensures.value (c.in_err-states.ensures.exhausted same);
    })

pub returns-in_err-report_of_states-clause-fault : goal.returns-in_err-report_of_states-clause-fault
returns-in_err-report_of_states-clause-fault g c = handed-on c.from_residual-in_err-report_of_states.result sim.Memory (IsReplayFault c.args.config.now c.args.bytes.now) c.from_residual-in_err-report_of_states.ensures.1 tt

pub returns-clause-text : goal.returns-clause-text
returns-clause-text g c =
    let config : Config = c.args.config.now in
    let rows : List Row = c.in_ok-trace.trace.items in
    let states : List Cache = c.in_ok-states.states.items in
    let last = c.in_ok-states.ensures.outcome in
    record {
      rows = rows;
      journals = last.0;
      states = states;
      accepted = subst (λ n. trace_of n (2 ^ 24) (records_of c.args.bytes.now) ≡ Ok rows) c.edges.ensures c.in_ok-trace.ensures.rows;
      outcome = subst (λ rs. IsOutcome (simulation config rs) end_of_time last.0 states) c.as_slice.ensures.value last.1;
      told = c.in_ok-report_of_states.ensures ∙ ap (λ (ss : List Cache). report_text config (map (λ s. s.counters) ss)) c.as_slice-2.ensures.value;
    }
