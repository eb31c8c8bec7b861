use Rattle.std.proofs.Common.{◌≤◌, ◌^◌, map, sym, ◌∙◌, subst}
use Rattle.std.proofs.lemmas.Result.{IfOk-weaker}
use Rattle.std.proofs.lemmas.Simd.{map-map}
use Rattle.rw_vt.specs.System.{IsOutcome}
use Rattle.rw_vt.proofs.Laws.{laws_of}
use Rattle.rw_world.specs.WorldState.{floor}
use Rattle.rw_world.specs.Calls.{system_of, simulation_of}
use Rattle.rw_rounds.proofs.Ending.{ending}
use Rattle.rw_rounds.proofs.Onward.{setting_of}
use Rattle.rw_rounds.proofs.running.outcome.Goals as goal

pub returns : goal.returns
returns g c =
    let laws = laws_of g.met.M.Model g.met.M.Body.Ord.total in
    let x = c.take-parts.result in
    let whole = c.take-parts.ensures.whole in
    let ordered = c.every_sound_world.ensures (setting_of x whole.ready) (simulation_of x).world whole.sound in
    let floored = subst (λ v. 2 ^ 40 ≤ floor v.world) (sym c.take-parts.ensures.is) c.requires.floor in
    let collected = subst (λ v. 2 ^ 40 ≤ v.world.collected) (sym c.take-parts.ensures.is) c.requires.collected in
    let left = ending laws (simulation_of x) whole.ready whole.sound ordered floored collected in
    let journals = sym (map-map (λ u. u.committed) (λ l. l.process) x.processes.items) ∙ left.journals_are in
    let states = sym (map-map (λ u. u.state) (λ l. l.process) x.processes.items) ∙ left.states_are in
    record {
      outcome = IfOk-weaker c.outcomes.result _ _
          (λ o its. subst (λ v. IsOutcome (system_of g.M.Model g.M.Body.Ord.cmp v) (2 ^ 40) (map (λ j. j.items) o.journals.items) o.states.items) c.take-parts.ensures.is
          (record { journals_are = its.0 ∙ journals; states_are = its.1 ∙ states })) c.outcomes.ensures;
    }
