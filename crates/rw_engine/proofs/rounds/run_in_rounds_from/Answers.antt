use Rattle.rw_vt.specs.System.{system}
use Rattle.rw_engine.proofs.Stopping.{alone_in_rounds}
use Rattle.rw_engine.proofs.rounds.run_in_rounds_from.Goals as goal

pub returns-then-plan-eq1-clause-stops : goal.returns-then-plan-eq1-clause-stops
returns-then-plan-eq1-clause-stops g c =
    let y = system g.M.Model g.M.Body.Ord.cmp c.args.start.model c.args.start.states.items (g.S.Source.left c.args.start.initial) in
    let ran = c.run_alone_from.ensures in
    alone_in_rounds y (g.M.Model.is_exhausted c.args.start.model) c.args.plan c.run_alone_from.result ran.stops ran.exhausted

pub returns-then-plan-eq1-clause-states : goal.returns-then-plan-eq1-clause-states
returns-then-plan-eq1-clause-states g c = c.run_alone_from.ensures.states

pub returns-then-plan-eq1-clause-plan : goal.returns-then-plan-eq1-clause-plan
returns-then-plan-eq1-clause-plan g c = c.run_alone_from.ensures.plan

pub returns-then-plan-eq1-clause-alone : goal.returns-then-plan-eq1-clause-alone
returns-then-plan-eq1-clause-alone g c one = c.run_alone_from.ensures.traffic
