use Rattle.std.proofs.Common.{IfOk, subst, sym}
use Rattle.rw_vt.specs.Rest.{AreLastStates}
use Rattle.rw_vt.specs.System.{IsReady, system}
use Rattle.rw_engine.proofs.rounds.run_in_scope.Goals as goal

pub run_by_workers-ran-requires-clause-ready : goal.run_by_workers-ran-requires-clause-ready
run_by_workers-ran-requires-clause-ready g c κs within = subst (IsReady g.M.Model c.args.run.model c.args.run.states.items) (sym c.new-pending.ensures.events) c.requires.ready

pub returns-clause-states : goal.returns-clause-states
returns-clause-states g c =
    let ends = system g.M.Model g.M.Body.Ord.cmp c.args.run.model c.args.run.states.items in
    subst (λ events. IfOk c.run_by_workers-ran.result (λ r. AreLastStates (ends events) r.0.items)) c.new-pending.ensures.events c.run_by_workers-ran.ensures.states

pub returns-clause-stops : goal.returns-clause-stops
returns-clause-stops g c = c.run_by_workers-ran.ensures.stops
