use Rattle.std.proofs.Common.{subst}
use Rattle.std.proofs.lemmas.Result.{IfErr-weaker, IfOk-weaker}
use Rattle.rw_vt.specs.Rest.{AreLastStates}
use Rattle.rw_vt.specs.System.{system}
use Rattle.rw_vt.proofs.Laws.{laws_of}
use Rattle.rw_vt.specs.Limits.{end_of_time}
use Rattle.rw_serial.specs.Counts.{events_below}
use Rattle.rw_engine.specs.Alone.{IsTrafficAlone}
use Rattle.rw_engine.specs.Segments.{MayStopInRounds}
use Rattle.rw_engine.proofs.Onward.{like_itself, moved_counts, moved_ends, moved_ready}
use Rattle.rw_engine.proofs.Stopping.{moved_stops}
use Rattle.rw_engine.proofs.rounds.run_in_rounds.Goals as goal

pub run_in_rounds_from-requires-clause-ready : goal.run_in_rounds_from-requires-clause-ready
run_in_rounds_from-requires-clause-ready g c κs within = moved_ready g.M.Model g.M.Body.Ord.cmp c.requires.ready c.in_ok-source.ensures

pub returns-clause-states : goal.returns-clause-states
returns-clause-states g c =
    let laws = laws_of (g.met.M.Model g.world.𝓛 g.world.𝓜 g.world.𝓡 (like_itself _ _)) (g.met.M.Body.Ord g.world.𝓛 g.world.𝓜 g.world.𝓡 (like_itself _ _)).total in
    let from = system g.M.Model g.M.Body.Ord.cmp c.args.start.model c.args.start.states.items in
    IfOk-weaker c.run_in_rounds_from.result (λ r. AreLastStates (from c.in_ok-source.source) r.0.items) (λ r. AreLastStates (from c.args.start.initial.items) r.0.items)
    (λ r last. moved_ends g.M.Model g.M.Body.Ord.cmp laws c.requires.ready c.in_ok-source.ensures last)
    c.run_in_rounds_from.ensures.states

pub returns-clause-stops : goal.returns-clause-stops
returns-clause-stops g c =
    let laws = laws_of (g.met.M.Model g.world.𝓛 g.world.𝓜 g.world.𝓡 (like_itself _ _)) (g.met.M.Body.Ord g.world.𝓛 g.world.𝓜 g.world.𝓡 (like_itself _ _)).total in
    let from = system g.M.Model g.M.Body.Ord.cmp c.args.start.model c.args.start.states.items in
    let test = g.M.Model.is_exhausted c.args.start.model in
    IfErr-weaker c.run_in_rounds_from.result (MayStopInRounds (from c.in_ok-source.source) test c.args.plan) (MayStopInRounds (from c.args.start.initial.items) test c.args.plan)
    (moved_stops laws c.args.start.model c.args.start.states.items c.in_ok-source.ensures test c.args.plan)
    c.run_in_rounds_from.ensures.stops

pub returns-clause-alone : goal.returns-clause-alone
returns-clause-alone g c one =
    let laws = laws_of (g.met.M.Model g.world.𝓛 g.world.𝓜 g.world.𝓡 (like_itself _ _)) (g.met.M.Body.Ord g.world.𝓛 g.world.𝓜 g.world.𝓡 (like_itself _ _)).total in
    let from = system g.M.Model g.M.Body.Ord.cmp c.args.start.model c.args.start.states.items in
    IfOk-weaker c.run_in_rounds_from.result (λ r. IsTrafficAlone c.args.plan (events_below (from c.in_ok-source.source) end_of_time) r.1) (λ r. IsTrafficAlone c.args.plan (events_below (from c.args.start.initial.items) end_of_time) r.1)
    (λ r counts. subst (λ n. IsTrafficAlone c.args.plan n r.1) (moved_counts g.M.Model g.M.Body.Ord.cmp laws c.args.start.model c.args.start.states.items c.in_ok-source.ensures end_of_time) counts)
    (c.run_in_rounds_from.ensures.alone one)
