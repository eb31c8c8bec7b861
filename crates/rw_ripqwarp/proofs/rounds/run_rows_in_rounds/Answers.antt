use Rattle.std.proofs.Common.{◌≡◌, ◌++◌, ℕ, List, Some, ◌∙◌, ap, subst}
use Rattle.std.proofs.lemmas.Result.{IfOk-from_err}
use Rattle.std.specs.Prelude.{slice_get}
use Rattle.rw_photo.specs.declared.config.Config.{Config}
use Rattle.rw_photo.specs.Cache.{Cache, IsWellFormed, is_exhausted}
use Rattle.rw_photo.specs.Simulation.{simulation, starts_of}
use Rattle.std.specs.Result.{IfErr, IfOk}
use Rattle.rw_vt.specs.System.{System, map_from}
use Rattle.rw_photo.specs.declared.body.Body.{Body}
use Rattle.rw_photo.specs.Events.{event_of}
use Rattle.rw_rounds.specs.declared.stop.Stop.TheVariants as stop
use Rattle.rw_engine.specs.Alone.{IsTrafficOfRun}
use Rattle.rw_engine.specs.Runs.{AreLastStates}
use Rattle.rw_engine.specs.Segments.{MayStopInRounds}
use Rattle.rw_engine.proofs.Stopping.{alone_in_rounds}
use Rattle.rw_report.proofs.Failing.{handed-on}
use Rattle.rw_report.proofs.Runs.{ready, ready-at, runs-rows}
use Rattle.rw_ripqwarp.proofs.Stopping.{good-plan}
use Rattle.rw_ripqwarp.proofs.Stepping.{caches}
use Rattle.rw_ripqwarp.proofs.rounds.run_rows_in_rounds.Goals as goal

pub run_in_rounds-requires-clause-ready : goal.run_in_rounds-requires-clause-ready
run_in_rounds-requires-clause-ready g c κs within = ready-at c.args.config.now c.new-photo.result c.in_ok-starts.starts.items c.in_ok-starts.initial.items c.new-photo.ensures c.in_ok-starts.ensures.ready

pub run_alone-requires : goal.run_alone-requires
run_alone-requires g c = record { ready = ready-at c.args.config.now c.new-photo.result c.in_ok-starts.starts.items c.in_ok-starts.initial.items c.new-photo.ensures c.in_ok-starts.ensures.ready }

pub run_alone_from-requires : goal.run_alone_from-requires
run_alone_from-requires g c =
    let config : Config = c.args.config.now in
    let starts : List Cache = c.in_ok-starts-2.starts.items in
    let are : starts ≡ starts_of config = c.in_ok-starts-2.ensures.states ∙ ap starts_of c.new-photo.ensures in
    let well : (p : ℕ) (s : Cache) → slice_get starts p ≡ Some s → IsWellFormed config p s =
    subst (λ (k : Config). (p : ℕ) (s : Cache) → slice_get starts p ≡ Some s → IsWellFormed k p s) c.new-photo.ensures c.in_ok-starts-2.ensures.well_formed in
    record { ready = ready-at config c.new-photo.result starts c.in-Some.source c.new-photo.ensures (ready config starts c.in-Some.source are well (c.in-Some.ensures.valid config c.requires.ranges)) }

pub run_in_rounds_from-requires-clause-ready : goal.run_in_rounds_from-requires-clause-ready
run_in_rounds_from-requires-clause-ready g c κs within =
    let config : Config = c.args.config.now in
    let starts : List Cache = c.in_ok-starts-2.starts.items in
    let are : starts ≡ starts_of config = c.in_ok-starts-2.ensures.states ∙ ap starts_of c.new-photo.ensures in
    let well : (p : ℕ) (s : Cache) → slice_get starts p ≡ Some s → IsWellFormed config p s =
    subst (λ (k : Config). (p : ℕ) (s : Cache) → slice_get starts p ≡ Some s → IsWellFormed k p s) c.new-photo.ensures c.in_ok-starts-2.ensures.well_formed in
    ready-at config c.new-photo.result starts c.in-Some.source c.new-photo.ensures (ready config starts c.in-Some.source are well (c.in-Some.ensures.valid config c.requires.ranges))

pub returns-in_default-clause-outcome : goal.returns-in_default-clause-outcome
returns-in_default-clause-outcome g c =
    let made = c.in_ok-starts.ensures in
    let all = c.as_slice.ensures.value ∙ c.in_ok-rows.ensures in
    subst (λ (y : System Cache Body). IfOk c.run_in_rounds.result (λ r. AreLastStates y r.0.items))
    (runs-rows c.args.config.now c.new-photo.result (c.args.parts.rows.now ++ c.args.parts.others.now) c.in_ok-starts.starts.items c.in_ok-starts.initial.items c.new-photo.ensures made.starts (made.initial ∙ ap (map_from 0 event_of) all)) c.run_in_rounds.ensures.states

pub returns-in_default-clause-in_range : goal.returns-in_default-clause-in_range
returns-in_default-clause-in_range g c = good-plan c.run_in_rounds.result c.args.plan c.run_in_rounds.ensures.plan

pub returns-then-alone-clause-outcome : goal.returns-then-alone-clause-outcome
returns-then-alone-clause-outcome g c =
    let made = c.in_ok-starts.ensures in
    let all = c.as_slice.ensures.value ∙ c.in_ok-rows.ensures in
    subst (λ (y : System Cache Body). IfOk c.run_alone.result (λ r. AreLastStates y r.0.items))
    (runs-rows c.args.config.now c.new-photo.result (c.args.parts.rows.now ++ c.args.parts.others.now) c.in_ok-starts.starts.items c.in_ok-starts.initial.items c.new-photo.ensures made.starts (made.initial ∙ ap (map_from 0 event_of) all)) c.run_alone.ensures.states

pub returns-then-alone-clause-in_range : goal.returns-then-alone-clause-in_range
returns-then-alone-clause-in_range g c = good-plan c.run_alone.result c.args.plan c.run_alone.ensures.plan

pub returns-then-alone-2-clause-outcome : goal.returns-then-alone-2-clause-outcome
returns-then-alone-2-clause-outcome g c =
    subst (λ (y : System Cache Body). IfOk c.run_alone_from.result (λ r. AreLastStates y r.0.items))
    (runs-rows c.args.config.now c.new-photo.result (c.args.parts.rows.now ++ c.args.parts.others.now) c.in_ok-starts-2.starts.items c.in-Some.source c.new-photo.ensures (c.in_ok-starts-2.ensures.states ∙ ap starts_of c.new-photo.ensures) c.in-Some.ensures.events)
    c.run_alone_from.ensures.states

pub returns-then-alone-2-clause-in_range : goal.returns-then-alone-2-clause-in_range
returns-then-alone-2-clause-in_range g c = good-plan c.run_alone_from.result c.args.plan c.run_alone_from.ensures.plan

pub returns-clause-outcome : goal.returns-clause-outcome
returns-clause-outcome g c =
    subst (λ (y : System Cache Body). IfOk c.run_in_rounds_from.result (λ r. AreLastStates y r.0.items))
    (runs-rows c.args.config.now c.new-photo.result (c.args.parts.rows.now ++ c.args.parts.others.now) c.in_ok-starts-2.starts.items c.in-Some.source c.new-photo.ensures (c.in_ok-starts-2.ensures.states ∙ ap starts_of c.new-photo.ensures) c.in-Some.ensures.events)
    c.run_in_rounds_from.ensures.states

pub returns-clause-in_range : goal.returns-clause-in_range
returns-clause-in_range g c = good-plan c.run_in_rounds_from.result c.args.plan c.run_in_rounds_from.ensures.plan

pub returns-in_err-rows-clause-outcome : goal.returns-in_err-rows-clause-outcome
returns-in_err-rows-clause-outcome g c = IfOk-from_err c.from_residual.result _ c.from_residual.ensures.0

pub returns-in_err-rows-clause-in_range : goal.returns-in_err-rows-clause-in_range
returns-in_err-rows-clause-in_range g c = IfOk-from_err c.from_residual.result _ c.from_residual.ensures.0

pub returns-in_err-rows-clause-stops : goal.returns-in_err-rows-clause-stops
returns-in_err-rows-clause-stops g c = handed-on c.from_residual.result stop.Memory (MayStopInRounds (simulation c.args.config.now (c.args.parts.rows.now ++ c.args.parts.others.now)) is_exhausted c.args.plan) c.from_residual.ensures.1 tt

pub returns-in_err-starts-clause-outcome : goal.returns-in_err-starts-clause-outcome
returns-in_err-starts-clause-outcome g c = IfOk-from_err c.from_residual-in_err-starts.result _ c.from_residual-in_err-starts.ensures.0

pub returns-in_err-starts-clause-in_range : goal.returns-in_err-starts-clause-in_range
returns-in_err-starts-clause-in_range g c = IfOk-from_err c.from_residual-in_err-starts.result _ c.from_residual-in_err-starts.ensures.0

pub returns-in_err-starts-clause-stops : goal.returns-in_err-starts-clause-stops
returns-in_err-starts-clause-stops g c = handed-on c.from_residual-in_err-starts.result stop.Memory (MayStopInRounds (simulation c.args.config.now (c.args.parts.rows.now ++ c.args.parts.others.now)) is_exhausted c.args.plan) c.from_residual-in_err-starts.ensures.1 tt

pub returns-in_err-starts-2-clause-outcome : goal.returns-in_err-starts-2-clause-outcome
returns-in_err-starts-2-clause-outcome g c = IfOk-from_err c.from_residual-in_err-starts-2.result _ c.from_residual-in_err-starts-2.ensures.0

pub returns-in_err-starts-2-clause-in_range : goal.returns-in_err-starts-2-clause-in_range
returns-in_err-starts-2-clause-in_range g c = IfOk-from_err c.from_residual-in_err-starts-2.result _ c.from_residual-in_err-starts-2.ensures.0

pub returns-in_err-starts-2-clause-stops : goal.returns-in_err-starts-2-clause-stops
returns-in_err-starts-2-clause-stops g c = handed-on c.from_residual-in_err-starts-2.result stop.Memory (MayStopInRounds (simulation c.args.config.now (c.args.parts.rows.now ++ c.args.parts.others.now)) is_exhausted c.args.plan) c.from_residual-in_err-starts-2.ensures.1 tt

pub returns-then-alone-clause-stops : goal.returns-then-alone-clause-stops
returns-then-alone-clause-stops g c =
    let made = c.in_ok-starts.ensures in
    let all = c.as_slice.ensures.value ∙ c.in_ok-rows.ensures in
    subst (λ (y : System Cache Body). IfErr c.run_alone.result (MayStopInRounds y is_exhausted c.args.plan))
    (runs-rows c.args.config.now c.new-photo.result (c.args.parts.rows.now ++ c.args.parts.others.now) c.in_ok-starts.starts.items c.in_ok-starts.initial.items c.new-photo.ensures made.starts (made.initial ∙ ap (map_from 0 event_of) all))
    (alone_in_rounds (caches c.new-photo.result c.in_ok-starts.starts.items c.in_ok-starts.initial.items) is_exhausted c.args.plan c.run_alone.result c.run_alone.ensures.stops c.run_alone.ensures.exhausted)

pub returns-then-alone-2-clause-stops : goal.returns-then-alone-2-clause-stops
returns-then-alone-2-clause-stops g c =
    subst (λ (y : System Cache Body). IfErr c.run_alone_from.result (MayStopInRounds y is_exhausted c.args.plan))
    (runs-rows c.args.config.now c.new-photo.result (c.args.parts.rows.now ++ c.args.parts.others.now) c.in_ok-starts-2.starts.items c.in-Some.source c.new-photo.ensures (c.in_ok-starts-2.ensures.states ∙ ap starts_of c.new-photo.ensures) c.in-Some.ensures.events)
    (alone_in_rounds (caches c.new-photo.result c.in_ok-starts-2.starts.items c.in-Some.source) is_exhausted c.args.plan c.run_alone_from.result c.run_alone_from.ensures.stops c.run_alone_from.ensures.exhausted)

pub returns-in_default-clause-stops : goal.returns-in_default-clause-stops
returns-in_default-clause-stops g c =
    let made = c.in_ok-starts.ensures in
    let all = c.as_slice.ensures.value ∙ c.in_ok-rows.ensures in
    subst (λ (y : System Cache Body). IfErr c.run_in_rounds.result (MayStopInRounds y is_exhausted c.args.plan))
    (runs-rows c.args.config.now c.new-photo.result (c.args.parts.rows.now ++ c.args.parts.others.now) c.in_ok-starts.starts.items c.in_ok-starts.initial.items c.new-photo.ensures made.starts (made.initial ∙ ap (map_from 0 event_of) all))
    c.run_in_rounds.ensures.stops

pub returns-clause-stops : goal.returns-clause-stops
returns-clause-stops g c =
    subst (λ (y : System Cache Body). IfErr c.run_in_rounds_from.result (MayStopInRounds y is_exhausted c.args.plan))
    (runs-rows c.args.config.now c.new-photo.result (c.args.parts.rows.now ++ c.args.parts.others.now) c.in_ok-starts-2.starts.items c.in-Some.source c.new-photo.ensures (c.in_ok-starts-2.ensures.states ∙ ap starts_of c.new-photo.ensures) c.in-Some.ensures.events)
    c.run_in_rounds_from.ensures.stops

pub returns-in_default-clause-alone : goal.returns-in_default-clause-alone
returns-in_default-clause-alone g c one =
    let made = c.in_ok-starts.ensures in
    let all = c.as_slice.ensures.value ∙ c.in_ok-rows.ensures in
    subst (λ (y : System Cache Body). IfOk c.run_in_rounds.result (λ r. IsTrafficOfRun c.args.plan y r.1))
    (runs-rows c.args.config.now c.new-photo.result (c.args.parts.rows.now ++ c.args.parts.others.now) c.in_ok-starts.starts.items c.in_ok-starts.initial.items c.new-photo.ensures made.starts (made.initial ∙ ap (map_from 0 event_of) all)) (c.run_in_rounds.ensures.alone one)

pub returns-then-alone-clause-alone : goal.returns-then-alone-clause-alone
returns-then-alone-clause-alone g c one =
    let made = c.in_ok-starts.ensures in
    let all = c.as_slice.ensures.value ∙ c.in_ok-rows.ensures in
    subst (λ (y : System Cache Body). IfOk c.run_alone.result (λ r. IsTrafficOfRun c.args.plan y r.1))
    (runs-rows c.args.config.now c.new-photo.result (c.args.parts.rows.now ++ c.args.parts.others.now) c.in_ok-starts.starts.items c.in_ok-starts.initial.items c.new-photo.ensures made.starts (made.initial ∙ ap (map_from 0 event_of) all)) c.run_alone.ensures.traffic

pub returns-then-alone-2-clause-alone : goal.returns-then-alone-2-clause-alone
returns-then-alone-2-clause-alone g c one =
    subst (λ (y : System Cache Body). IfOk c.run_alone_from.result (λ r. IsTrafficOfRun c.args.plan y r.1))
    (runs-rows c.args.config.now c.new-photo.result (c.args.parts.rows.now ++ c.args.parts.others.now) c.in_ok-starts-2.starts.items c.in-Some.source c.new-photo.ensures (c.in_ok-starts-2.ensures.states ∙ ap starts_of c.new-photo.ensures) c.in-Some.ensures.events)
    c.run_alone_from.ensures.traffic

pub returns-clause-alone : goal.returns-clause-alone
returns-clause-alone g c one =
    subst (λ (y : System Cache Body). IfOk c.run_in_rounds_from.result (λ r. IsTrafficOfRun c.args.plan y r.1))
    (runs-rows c.args.config.now c.new-photo.result (c.args.parts.rows.now ++ c.args.parts.others.now) c.in_ok-starts-2.starts.items c.in-Some.source c.new-photo.ensures (c.in_ok-starts-2.ensures.states ∙ ap starts_of c.new-photo.ensures) c.in-Some.ensures.events)
    (c.run_in_rounds_from.ensures.alone one)

pub returns-in_err-rows-clause-alone : goal.returns-in_err-rows-clause-alone
returns-in_err-rows-clause-alone g c one = IfOk-from_err c.from_residual.result _ c.from_residual.ensures.0

pub returns-in_err-starts-clause-alone : goal.returns-in_err-starts-clause-alone
returns-in_err-starts-clause-alone g c one = IfOk-from_err c.from_residual-in_err-starts.result _ c.from_residual-in_err-starts.ensures.0

pub returns-in_err-starts-2-clause-alone : goal.returns-in_err-starts-2-clause-alone
returns-in_err-starts-2-clause-alone g c one = IfOk-from_err c.from_residual-in_err-starts-2.result _ c.from_residual-in_err-starts-2.ensures.0
