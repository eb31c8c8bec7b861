use Rattle.std.proofs.Common.{◌≡◌}
use Rattle.rw_vt.specs.System.{system}
use Rattle.rw_rounds.specs.Stops.{EndsRound, stop_of}
use Rattle.rw_engine.specs.Runs.{MayStopInOrder}
use Rattle.rw_engine.proofs.Stopping.{if_handed_on, refused_in_order}
use Rattle.rw_engine.proofs.running.run_in_order.Goals as goal

pub returns-in_err-states-clause-stops : goal.returns-in_err-states-clause-stops
returns-in_err-states-clause-stops g c =
    let y = system g.M.Model g.M.Body.Ord.cmp c.args.start.model c.args.start.states.items c.args.start.initial.items in
    let test = g.M.Model.is_exhausted c.args.start.model in
    let refusal = c.in_err-states.field-0.0 in
    if_handed_on c.from_residual.result (λ s. (s ≡ stop_of refusal) × EndsRound s) (MayStopInOrder y test) (λ s given. refused_in_order y test refusal s given.0 c.in_err-states.ensures.exhausted) c.from_residual.ensures.1
