use Rattle.std.proofs.Common.{◌≡◌, ◌<◌, ◌+◌, ◌*◌, [], ◌∷◌, sym, subst, ◌∙◌, ap, arith, inr, length, length-append, map, refl}
use Rattle.std.proofs.lemmas.Result.{err_from_is_err_and}
use Rattle.rw_vt.specs.Moments.{AreStatesAt}
use Rattle.rw_vt.specs.System.{Meets}
use Rattle.rw_photo.specs.declared.config.Config.{Config}
use Rattle.rw_photo.specs.Cache.{is_exhausted}
use Rattle.rw_photo.specs.Simulation.{simulation}
use Rattle.rw_report.specs.declared.moments.Moment.{Moment}
use Rattle.rw_report.specs.History.{AreMomentsFrom, IsMoment, RecordingState, next_mark}
use Rattle.rw_report.specs.Run.{IsRunOn}
use Rattle.rw_report.proofs.Failing.{only_memory}
use Rattle.rw_report.proofs.Recorded.{more_moments}
use Rattle.rw_report.proofs.recording.Recording.record.Goals as goal

pub invariant_of-result : goal.invariant_of-result
invariant_of-result c =
    let was = c.self.inside in
    let m : Moment = record { time = was.next; counters = c.in_ok-counters.counters } in
    let long = ap length c.in_ok-push.ensures.items ∙ length-append was.moments.items (m ∷ []) in
    let product = ap (λ n. n * was.marks.every) long in
    let at = c.self.invariant.0 in
    let reached = c.in_ok-run.ensures.time in (
      omega (arith, product, at),
      omega (arith, reached),
      inr (omega (arith, reached)),
    )

pub returns-clause-moments : goal.returns-clause-moments
returns-clause-moments c = λ rows run are.
    let was = c.self.inside in
    let m : Moment = record { time = was.next; counters = c.in_ok-counters.counters } in
    let is = subst (λ (v : RecordingState). IsRunOn rows v.run) (sym c.self.view_is) run in
    let before = subst (λ (v : RecordingState). AreMomentsFrom (simulation v.run.config rows) v.every v.start v.moments) (sym c.self.view_is) are in
    let reached = c.in_ok-run.ensures.reached rows is in
    let states = c.in_ok-run.run'.states in
    let at = subst (λ t. AreStatesAt (simulation c.in_ok-run.run'.config rows) t states) c.in_ok-run.ensures.time reached.reached.states_are in
    let moment : IsMoment (simulation was.run.config rows) was.next m = record {
      states = states;
      time = refl;
      states_are = subst (λ (k : Config). AreStatesAt (simulation k rows) was.next states) c.in_ok-run.ensures.config at;
      counted = c.in_ok-counters.ensures ∙ ap (map (λ s. s.counters)) c.states.ensures;
    } in
    subst (λ (v : RecordingState). AreMomentsFrom (simulation v.run.config rows) v.every v.start c.push.new.self.items) c.self.view_is
    (subst (AreMomentsFrom (simulation was.run.config rows) was.marks.every was.marks.start) (sym c.in_ok-push.ensures.items)
    (more_moments (simulation was.run.config rows) was.marks.every was.marks.start was.next was.moments.items m before c.self.invariant.0 moment))

pub returns-clause-near : goal.returns-clause-near
returns-clause-near c =
    let was = c.self.inside in
    let m : Moment = record { time = was.next; counters = c.in_ok-counters.counters } in
    let long = ap length c.in_ok-push.ensures.items ∙ length-append was.moments.items (m ∷ []) in
    let product = ap (λ n. n * was.marks.every) long in
    let at = c.self.invariant.0 in
    let few = was.marks.few in
    omega (arith, product, at, c.in_ok-run.ensures.time, few)

pub returns-clause-later : goal.returns-clause-later
returns-clause-later c =
    let was = c.self.inside in
    let m : Moment = record { time = was.next; counters = c.in_ok-counters.counters } in
    let long = ap length c.in_ok-push.ensures.items ∙ length-append was.moments.items (m ∷ []) in
    let product = ap (λ n. n * was.marks.every) long in
    let some = was.marks.some in
    subst (λ (v : RecordingState). next_mark v < was.marks.start + length c.push.new.self.items * was.marks.every) c.self.view_is (omega (arith, product, some))

pub returns-clause-count : goal.returns-clause-count
returns-clause-count c =
    let m : Moment = record { time = c.self.inside.next; counters = c.in_ok-counters.counters } in
    let long = ap length c.in_ok-push.ensures.items ∙ length-append c.self.inside.moments.items (m ∷ []) in
    subst (λ (v : RecordingState). length c.push.new.self.items ≡ length v.moments + 1) c.self.view_is long

pub returns-in_err-run-clause-exhausted : goal.returns-in_err-run-clause-exhausted
returns-in_err-run-clause-exhausted c =
    let was = c.self.inside in
    let p = err_from_is_err_and c.from_residual.result c.from_residual.ensures.1 in
    rw (p.1, p.2) (λ e rows run.
    let is = subst (λ (v : RecordingState). IsRunOn rows v.run) (sym c.self.view_is) run in
    subst (λ (v : RecordingState). Meets (simulation v.run.config rows) (next_mark v) is_exhausted) c.self.view_is
    (subst (λ t. Meets (simulation was.run.config rows) t is_exhausted) c.self.invariant.0 (c.in_err-run.ensures.exhausted e rows is)))

pub returns-in_err-counters-clause-exhausted : goal.returns-in_err-counters-clause-exhausted
returns-in_err-counters-clause-exhausted c = only_memory c.from_residual-in_err-counters.result _ c.from_residual-in_err-counters.ensures.1

pub returns-in_err-push-clause-exhausted : goal.returns-in_err-push-clause-exhausted
returns-in_err-push-clause-exhausted c = only_memory c.from_residual-in_err-push.result _ c.from_residual-in_err-push.ensures.1
