use Rattle.std.proofs.Common.{◌≡◌, ◌≢◌, [], rules, sym, subst, ◌∙◌, ap}
use Rattle.std.proofs.lemmas.Result.{err_from_is_err_and}
use Rattle.rw_vt.specs.Limits.{end_of_time}
use Rattle.rw_vt.specs.System.{Meets}
use Rattle.rw_photo.specs.declared.config.Config.{Config}
use Rattle.rw_photo.specs.Cache.{is_exhausted}
use Rattle.rw_photo.specs.Simulation.{simulation}
use Rattle.rw_report.specs.History.{RecordingState, next_mark}
use Rattle.rw_report.proofs.Recorded.{ends_recorded, history_of, meets_all, passes_first, passes_on}
use Rattle.rw_report.proofs.recording.Recording.finish.Goals as goal

pub returns-in_err-recording-clause-exhausted : goal.returns-in_err-recording-clause-exhausted
returns-in_err-recording-clause-exhausted c =
    let p = err_from_is_err_and c.from_residual.result c.from_residual.ensures.1 in
    rw (p.1, p.2) (λ e rows is. meets_all c.args.self.run.config rows (next_mark c.args.self) is.run.ready (c.in_err-recording.ensures.exhausted e rows is.run))

pub marks-init : goal.marks-init
marks-init c =
    let told = c.in_ok-recording.ensures in
    record {
      near = told.near;
      config = told.config;
      start = told.marks.0;
      every = told.marks.1;
      passed = λ rows is. passes_first c.args.self c.in_ok-recording.recording rows told.config told.marks.0 told.marks.1 (told.run rows is.run) told.count (told.moments rows is.run is.moments) told.time is;
    }

pub returns-in_err-recording-2-clause-exhausted : goal.returns-in_err-recording-2-clause-exhausted
returns-in_err-recording-2-clause-exhausted c =
    let r = c.marks.recording in
    let inv = c.marks.invariant in
    let p = err_from_is_err_and c.from_residual-in_err-recording-2.result c.from_residual-in_err-recording-2.ensures.1 in
    rw (p.1, p.2) (λ e rows is.
    let passed = inv.passed rows is in
    subst (λ (k : Config). Meets (simulation k rows) end_of_time is_exhausted) inv.config (meets_all r.run.config rows (next_mark r) passed.run.ready (c.in_err-recording-2.ensures.exhausted e rows passed.run)))

pub marks-preserved : goal.marks-preserved
marks-preserved c =
    let r = c.marks.recording in
    let inv = c.marks.invariant in
    let told = c.in_ok-recording-2.ensures in
    let some : r.run.waiting ≢ [] = λ none. let done = c.is_done.ensures.done.1 none in cc in
    record {
      near = told.near;
      config = told.config ∙ inv.config;
      start = told.marks.0 ∙ inv.start;
      every = told.marks.1 ∙ inv.every;
      passed = λ rows is.
          let passed = inv.passed rows is in
          passes_on r c.in_ok-recording-2.recording rows told.config told.marks.0 told.marks.1 (told.run rows passed.run) told.count (told.moments rows passed.run passed.moments) told.time passed some;
    }

pub returns-clause-history : goal.returns-clause-history
returns-clause-history c = λ rows is.
    let r = c.marks.recording in
    let inv = c.marks.invariant in
    let none : r.run.waiting ≡ [] = c.is_done.ensures.done.0 (search rules) in
    let same = ap (λ (v : RecordingState). v.moments) (sym c.recording.view_is) in
    history_of rows r.run.config c.args.self.run.config r.start c.args.self.start r.every c.args.self.every r.moments c.recording.inside.moments.items inv.config inv.start inv.every same (ends_recorded r rows (inv.passed rows is) none)
