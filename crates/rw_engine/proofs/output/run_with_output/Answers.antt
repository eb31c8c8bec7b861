use Rattle.std.proofs.Common.{◌≡◌, ◌∙◌, [], ap, subst, sym}
use Rattle.rw_vt.specs.Rest.{AreLastStates}
use Rattle.rw_vt.specs.System.{system}
use Rattle.rw_models.specs.declared.recorded.Recorded.{Recorded}
use Rattle.rw_engine.specs.Outputs.{TookEach}
use Rattle.rw_engine.specs.Runs.{MayStopFor}
use Rattle.rw_engine.proofs.Stopping.{if_handed_on, unrecorded_stops}
use Rattle.rw_engine.proofs.output.run_with_output.Goals as goal

pub returns-clause-states : goal.returns-clause-states
returns-clause-states g c =
    let begun = c.in_ok-records.ensures in
    let model = c.args.start.model in
    let starts = c.args.start.states.items in
    let initial = c.args.start.initial.items in
    let is : c.new-recorded.result ≡ record { model = model } = ap (λ m. let r : Recorded g.row.M.Denot = record { model = m } in r) c.new-recorded.ensures.model in
    let left = begun.left model initial in
    let last = (c.in_ok-events.ensures.commits model starts initial c.requires).last starts initial [] (rw begun.states at left) (rw (begun.records, is) at c.in_ok-records-2.ensures.states) in
    subst (AreLastStates (system g.M.Model g.M.Body.Ord.cmp model starts initial)) (sym (c.in_ok-states.ensures ∙ c.in_ok-events.ensures.states)) last.0

pub returns-clause-output : goal.returns-clause-output
returns-clause-output g c =
    let begun = c.in_ok-records.ensures in
    let model = c.args.start.model in
    let starts = c.args.start.states.items in
    let initial = c.args.start.initial.items in
    let is : c.new-recorded.result ≡ record { model = model } = ap (λ m. let r : Recorded g.row.M.Denot = record { model = m } in r) c.new-recorded.ensures.model in
    let left = begun.left model initial in
    let last = (c.in_ok-events.ensures.commits model starts initial c.requires).last starts initial [] (rw begun.states at left) (rw (begun.records, is) at c.in_ok-records-2.ensures.states) in
    subst (λ es. TookEach g.O.Output.Takes c.args.output.now es c.commit_all.new.output) (c.deref.ensures.value ∙ last.1) c.commit_all.ensures

-- the model inside meets a state that can take no further event only where the model with records does
pub returns-in_err-records-2-clause-stops : goal.returns-in_err-records-2-clause-stops
returns-in_err-records-2-clause-stops g c =
    let initial = c.args.start.initial.items in
    let from = system g.M.Model g.M.Body.Ord.cmp c.args.start.model in
    let y = from c.args.start.states.items initial in
    let tested = g.M.Model.is_exhausted c.new-recorded.result.model in
    let test = g.M.Model.is_exhausted c.args.start.model in
    let stop = c.in_err-records-2.field-0.0 in
    let keeps = c.new-recorded.ensures.runs c.in_ok-records.records.items initial in
    let inside = unrecorded_stops keeps tested c.args.how stop c.in_err-records-2.ensures.stops in
    let begun = subst (λ starts. MayStopFor (from starts initial) tested c.args.how stop) c.in_ok-records.ensures.states inside in
    let may = subst (λ m. MayStopFor y (g.M.Model.is_exhausted m) c.args.how stop) c.new-recorded.ensures.model begun in
    if_handed_on c.from_residual-in_err-records-2.result (λ s. s ≡ stop) (MayStopFor y test c.args.how) (λ s is. subst (MayStopFor y test c.args.how) (sym is) may) c.from_residual-in_err-records-2.ensures.1
