use Rattle.std.proofs.Common.{◌≤◌, sym, subst, arith, inl, inr}
use Rattle.std.proofs.lemmas.Result.{err_from_is_err_and}
use Rattle.rw_vt.specs.System.{Meets}
use Rattle.rw_photo.specs.Cache.{is_exhausted}
use Rattle.rw_photo.specs.Simulation.{simulation}
use Rattle.rw_report.specs.History.{RecordingState, next_mark}
use Rattle.rw_report.specs.Run.{IsRunOn}
use Rattle.rw_report.proofs.recording.Recording.run_until.Goals as goal

pub invariant_of-result : goal.invariant_of-result
invariant_of-result c =
    let at = c.self.invariant.0 in
    let time = c.in_ok-run.ensures.time in
    let later = subst (λ (v : RecordingState). v.run.time ≤ c.args.until) (sym c.self.view_is) c.requires.later in
    let before = subst (λ (v : RecordingState). c.args.until ≤ next_mark v) (sym c.self.view_is) c.requires.before in (
      at,
      omega (arith, at, time, before),
      elim c.self.invariant.2 [ inl none ↦ inl none | inr near ↦ inr (omega (arith, time, later, near)) ],
    )

pub returns-in_err-run-clause-exhausted : goal.returns-in_err-run-clause-exhausted
returns-in_err-run-clause-exhausted c =
    let p = err_from_is_err_and c.from_residual.result c.from_residual.ensures.1 in
    rw (p.1, p.2) (λ e rows run.
    subst (λ (v : RecordingState). Meets (simulation v.run.config rows) c.args.until is_exhausted) c.self.view_is
    (c.in_err-run.ensures.exhausted e rows (subst (λ (v : RecordingState). IsRunOn rows v.run) (sym c.self.view_is) run)))
