use Rattle.std.proofs.Common.{◌≡◌, ◌∙◌, Err, ap, subst, sym}
use Rattle.rw_vt.specs.System.{system}
use Rattle.rw_rounds.specs.Stops.{EndsRound, stop_of}
use Rattle.rw_engine.specs.Runs.{MayStopBySteps}
use Rattle.rw_engine.proofs.Stopping.{if_handed_on, met_at_opening, refused_by_steps}
use Rattle.rw_engine.proofs.running.run_by_steps.Goals as goal

-- only memory is wanted to open a world
pub returns-in_err-world-clause-stops : goal.returns-in_err-world-clause-stops
returns-in_err-world-clause-stops g c =
    let y = system g.M.Model g.M.Body.Ord.cmp c.args.start.model c.args.start.states.items c.args.start.initial.items in
    let may = MayStopBySteps y (g.M.Model.is_exhausted c.args.start.model) c.args.steps.now in
    let refusal = c.in_err-world.field-0.0 in
    if_handed_on c.from_residual.result (λ s. (s ≡ stop_of refusal) × EndsRound s) may (λ s given. subst may (sym (given.0 ∙ ap stop_of c.in_err-world.ensures.memory)) tt) c.from_residual.ensures.1

pub returns-in_err-world-2-clause-stops : goal.returns-in_err-world-2-clause-stops
returns-in_err-world-2-clause-stops g c =
    let y = system g.M.Model g.M.Body.Ord.cmp c.args.start.model c.args.start.states.items c.args.start.initial.items in
    let test = g.M.Model.is_exhausted c.args.start.model in
    let steps = c.args.steps.now in
    let refusal = c.in_err-world-2.field-0.0 in
    if_handed_on c.from_residual-in_err-world-2.result (λ s. (s ≡ stop_of refusal) × EndsRound s) (MayStopBySteps y test steps)
    (λ s given. refused_by_steps y test steps refusal s given.0 (λ same. met_at_opening g.M.Model g.M.Body.Ord.cmp steps c.in_ok-world.ensures.opened (c.in_err-world-2.ensures.exhausted (ap Err same)))) c.from_residual-in_err-world-2.ensures.1
