use Rattle.std.proofs.Common.{◌≡◌, ◌∙◌, ◌^◌, ◌++◌, List, Ok, ap, length, map, subst}
use Rattle.std.proofs.lemmas.Result.{IfOk-from_err}
use Rattle.std.specs.Prelude.{◌≢◌}
use Rattle.rw_vt.specs.Limits.{end_of_time}
use Rattle.rw_vt.specs.System.{IsOutcome}
use Rattle.rw_trace.specs.declared.Row.{Row}
use Rattle.rw_trace.specs.Trace.{trace_of}
use Rattle.rw_trace.specs.Unread.{records_of}
use Rattle.rw_report.specs.declared.sim_fault.SimFault.TheVariants as sim
use Rattle.rw_engine.specs.Alone.{IsTrafficOfRun}
use Rattle.rw_engine.specs.Segments.{MayStopInRounds}
use Rattle.rw_photo.specs.Cache.{Cache, is_exhausted}
use Rattle.rw_photo.specs.Simulation.{simulation}
use Rattle.rw_photo.specs.declared.config.Config.{Config}
use Rattle.rw_report.specs.Report.{report_text}
use Rattle.rw_report.proofs.Failing.{handed-on}
use Rattle.rw_report.proofs.Runs.{length-of-caches}
use Rattle.rw_ripqwarp.specs.declared.mode.Mode.TheVariants.{Warp}
use Rattle.rw_ripqwarp.specs.Simulate.{IsRunFault}
use Rattle.rw_ripqwarp.proofs.Failing.{stop-unwritten}
use Rattle.rw_ripqwarp.proofs.Stopping.{stop-is-fault-in-rounds}
use Rattle.rw_ripqwarp.proofs.rounds.rounds_text.Goals as goal

pub report_of_states-requires : goal.report_of_states-requires
report_of_states-requires g c =
    let outcome = c.in-Ok.ensures.outcome in
    ap length c.as_slice-in-Ok.ensures.value ∙ length-of-caches c.args.config.now (c.as_slice.result.now ++ c.as_slice-2.result.now) outcome.0 c.in-Ok.states.items outcome.1

pub returns-clause-fault : goal.returns-clause-fault
returns-clause-fault g c =
    let rows : List Row = c.in_ok-rows.rows.items ++ c.in_ok-rows.others.items in
    let accepted = subst (λ n. trace_of n (2 ^ 24) (records_of c.args.bytes.now) ≡ Ok rows) c.edges.ensures c.in_ok-rows.ensures.rows in
    let both : c.as_slice.result.now ++ c.as_slice-2.result.now ≡ rows =
    ap (λ l. l ++ c.as_slice-2.result.now) c.as_slice.ensures.value ∙ ap (λ l. c.in_ok-rows.rows.items ++ l) c.as_slice-2.ensures.value in
    stop-is-fault-in-rounds c.args.config.now c.args.bytes.now rows accepted c.args.plan c.in-Err.stop c.why_it_stopped.result
    (subst (λ rs. MayStopInRounds (simulation c.args.config.now rs) is_exhausted c.args.plan c.in-Err.stop) both c.in-Err.ensures.stops) c.why_it_stopped.ensures

pub returns-clause-unwritten : goal.returns-clause-unwritten
returns-clause-unwritten g c = stop-unwritten c.in-Err.stop c.why_it_stopped.result c.why_it_stopped.ensures

pub returns-in-Ok-clause-text : goal.returns-in-Ok-clause-text
returns-in-Ok-clause-text g c =
    let config : Config = c.args.config.now in
    let rows : List Row = c.in_ok-rows.rows.items ++ c.in_ok-rows.others.items in
    let states : List Cache = c.in-Ok.states.items in
    let last = c.in-Ok.ensures.outcome in
    let both : c.as_slice.result.now ++ c.as_slice-2.result.now ≡ rows =
    ap (λ l. l ++ c.as_slice-2.result.now) c.as_slice.ensures.value ∙ ap (λ l. c.in_ok-rows.rows.items ++ l) c.as_slice-2.ensures.value in
    record {
      rows = rows;
      journals = last.0;
      states = states;
      accepted = subst (λ n. trace_of n (2 ^ 24) (records_of c.args.bytes.now) ≡ Ok rows) c.edges.ensures c.in_ok-rows.ensures.rows;
      outcome = subst (λ rs. IsOutcome (simulation config rs) end_of_time last.0 states) both last.1;
      told = c.in_ok-text-in-Ok.ensures ∙ ap (λ (ss : List Cache). report_text config (map (λ s. s.counters) ss)) c.as_slice-in-Ok.ensures.value;
    }

pub returns-in_err-rows-clause-text : goal.returns-in_err-rows-clause-text
returns-in_err-rows-clause-text g c = IfOk-from_err c.from_residual.result _ c.from_residual.ensures.0

pub returns-in_err-rows-clause-in_range : goal.returns-in_err-rows-clause-in_range
returns-in_err-rows-clause-in_range g c = IfOk-from_err c.from_residual.result _ c.from_residual.ensures.0

pub returns-in_err-text-in-Ok-clause-text : goal.returns-in_err-text-in-Ok-clause-text
returns-in_err-text-in-Ok-clause-text g c = IfOk-from_err c.from_residual-in_err-text-in-Ok.result _ c.from_residual-in_err-text-in-Ok.ensures.0

pub returns-in_err-text-in-Ok-clause-in_range : goal.returns-in_err-text-in-Ok-clause-in_range
returns-in_err-text-in-Ok-clause-in_range g c = IfOk-from_err c.from_residual-in_err-text-in-Ok.result _ c.from_residual-in_err-text-in-Ok.ensures.0

pub returns-in_err-text-in-Ok-clause-fault : goal.returns-in_err-text-in-Ok-clause-fault
returns-in_err-text-in-Ok-clause-fault g c = handed-on c.from_residual-in_err-text-in-Ok.result sim.Memory (IsRunFault (Warp c.args.plan) c.args.config.now c.args.bytes.now) c.from_residual-in_err-text-in-Ok.ensures.1 tt

pub returns-in_err-text-in-Ok-clause-unwritten : goal.returns-in_err-text-in-Ok-clause-unwritten
returns-in_err-text-in-Ok-clause-unwritten g c = handed-on c.from_residual-in_err-text-in-Ok.result sim.Memory (λ e. e ≢ sim.Output) c.from_residual-in_err-text-in-Ok.ensures.1 (λ same. cc)

pub returns-in-Ok-clause-in_range : goal.returns-in-Ok-clause-in_range
returns-in-Ok-clause-in_range g c = c.in-Ok.ensures.in_range

pub returns-in-Ok-clause-alone : goal.returns-in-Ok-clause-alone
returns-in-Ok-clause-alone g c one told accepted =
    let rows : List Row = c.in_ok-rows.rows.items ++ c.in_ok-rows.others.items in
    let both : c.as_slice.result.now ++ c.as_slice-2.result.now ≡ rows =
    ap (λ l. l ++ c.as_slice-2.result.now) c.as_slice.ensures.value ∙ ap (λ l. c.in_ok-rows.rows.items ++ l) c.as_slice-2.ensures.value in
    let these = subst (λ n. trace_of n (2 ^ 24) (records_of c.args.bytes.now) ≡ Ok rows) c.edges.ensures c.in_ok-rows.ensures.rows in
    let same : rows ≡ told = cc in
    subst (λ rs. IsTrafficOfRun c.args.plan (simulation c.args.config.now rs) c.in-Ok.traffic) (both ∙ same) (c.in-Ok.ensures.alone one)

pub returns-in_err-rows-clause-alone : goal.returns-in_err-rows-clause-alone
returns-in_err-rows-clause-alone g c = IfOk-from_err c.from_residual.result _ c.from_residual.ensures.0

pub returns-in_err-text-in-Ok-clause-alone : goal.returns-in_err-text-in-Ok-clause-alone
returns-in_err-text-in-Ok-clause-alone g c = IfOk-from_err c.from_residual-in_err-text-in-Ok.result _ c.from_residual-in_err-text-in-Ok.ensures.0
