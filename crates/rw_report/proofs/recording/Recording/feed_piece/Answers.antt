use Rattle.std.proofs.Common.{◌≡◌, ◌≤◌, ◌<◌, ◌++◌, ℕ, List, Result, Ok, Err, append-nil, length, refl, subst, sym, ◌∙◌, ap, arith}
use Rattle.std.specs.Prelude.{IfErr, IfOk}
use Rattle.std.proofs.lemmas.Result.{err_from_is_err_and}
use Rattle.rw_vt.specs.System.{Meets}
use Rattle.rw_vt.specs.declared.refusal.Refusal.{Refusal}
use Rattle.rw_vt.specs.declared.refusal.Refusal.TheVariants.{Exhausted}
use Rattle.rw_trace.specs.declared.Row.{Row}
use Rattle.rw_trace.specs.Pieces.{last_time}
use Rattle.rw_photo.specs.declared.config.Config.{Config}
use Rattle.rw_photo.specs.Cache.{is_exhausted}
use Rattle.rw_photo.specs.Simulation.{simulation}
use Rattle.rw_report.specs.History.{IsRecordingOf, RecordingState, next_mark}
use Rattle.rw_report.specs.Run.{IsRunOn}
use Rattle.rw_report.proofs.Failing.{only_memory}
use Rattle.rw_report.proofs.Recorded.{goes_recorded, meets_sooner, records_on, rising_last, some_rows, waits_for_some, within_latest}
use Rattle.rw_report.proofs.Streamed.{none_left}
use Rattle.rw_report.proofs.recording.Recording.feed_piece.Goals as goal

pub returns-then-is_empty-clause-fed : goal.returns-then-is_empty-clause-fed
returns-then-is_empty-clause-fed c = λ before is.
    let none = sym c.as_slice-piece.ensures.value ∙ none_left c.is_empty.result c.as_slice-piece.result.now c.is_empty.ensures c.if-is_empty.true in
    subst (λ rs. IsRecordingOf (before ++ rs) c.args.self) (sym none) (subst (λ rs. IsRecordingOf rs c.args.self) (sym (append-nil before)) is)

pub marks-init : goal.marks-init
marks-init c =
    let now = c.time.ensures ∙ ap (λ (v : RecordingState). v.run.time) c.self.view_is in
    let until = c.latest-until.ensures ∙ ap (last_time c.time.result) c.as_slice-piece.ensures.value ∙ ap (λ t. last_time t c.args.rows.items) now in
    let later = rising_last c.args.self.run.time c.args.rows.items c.requires.rising in
    record {
      config = c.in_ok-recording.ensures.config;
      start = c.in_ok-recording.ensures.marks.0;
      every = c.in_ok-recording.ensures.marks.1;
      time = omega (arith, c.in_ok-recording.ensures.time, until, later);
      fed = λ before is. c.in_ok-recording.ensures.taken before is;
    }

pub record-requires : goal.record-requires
record-requires c =
    let now = c.time.ensures ∙ ap (λ (v : RecordingState). v.run.time) c.self.view_is in
    let until = c.latest-until.ensures ∙ ap (last_time c.time.result) c.as_slice-piece.ensures.value ∙ ap (λ t. last_time t c.args.rows.items) now in
    let some = subst (λ rs. 0 < length rs) c.as_slice-piece.ensures.value (some_rows c.is_empty.result c.as_slice-piece.result.now c.is_empty.ensures c.if-is_empty.false) in
    let within = within_latest c.args.self.run.time c.args.self.run.config.edges c.args.rows.items some c.requires.ranges in
    omega (arith, c.marks.invariant.time, until, within)

pub returns-in_err-recording-2-clause-exhausted : goal.returns-in_err-recording-2-clause-exhausted
returns-in_err-recording-2-clause-exhausted c =
    let now = c.time.ensures ∙ ap (λ (v : RecordingState). v.run.time) c.self.view_is in
    let until = c.latest-until.ensures ∙ ap (last_time c.time.result) c.as_slice-piece.ensures.value ∙ ap (λ t. last_time t c.args.rows.items) now in
    let rows = c.args.rows.items in
    let inv = c.marks.invariant in
    let r = c.marks.recording in
    let last = last_time c.args.self.run.time rows in
    let soon : next_mark r ≤ last = omega (arith, c.next.ensures.mark, c.marks-test.true, until) in
    let p = err_from_is_err_and c.from_residual-in_err-recording-2.result c.from_residual-in_err-recording-2.ensures.1 in
    rw (p.1, p.2) (λ e before is.
    let all = inv.fed before is in
    subst (λ (k : Config). Meets (simulation k (before ++ rows)) last is_exhausted) inv.config
    (meets_sooner r.run.config (before ++ rows) (next_mark r) last soon all.run.ready (c.in_err-recording-2.ensures.exhausted e (before ++ rows) all.run)))

pub marks-preserved : goal.marks-preserved
marks-preserved c =
    let now = c.time.ensures ∙ ap (λ (v : RecordingState). v.run.time) c.self.view_is in
    let until = c.latest-until.ensures ∙ ap (last_time c.time.result) c.as_slice-piece.ensures.value ∙ ap (λ t. last_time t c.args.rows.items) now in
    let rows = c.args.rows.items in
    let inv = c.marks.invariant in
    let r = c.marks.recording in
    let told = c.in_ok-recording-2.ensures in
    let some = subst (λ rs. 0 < length rs) c.as_slice-piece.ensures.value (some_rows c.is_empty.result c.as_slice-piece.result.now c.is_empty.ensures c.if-is_empty.false) in
    let soon : next_mark r ≤ last_time c.args.self.run.time rows = omega (arith, c.next.ensures.mark, c.marks-test.true, until) in
    record {
      config = told.config ∙ inv.config;
      start = told.marks.0 ∙ inv.start;
      every = told.marks.1 ∙ inv.every;
      time = omega (arith, told.time, c.next.ensures.mark, c.marks-test.true);
      fed = λ before is.
          let all = inv.fed before is in
          records_on r c.in_ok-recording-2.recording (before ++ rows) told.config told.marks.0 told.marks.1 (told.run (before ++ rows) all.run) told.count (told.moments (before ++ rows) all.run all.moments) all
          (waits_for_some r.run.config before rows c.args.self.run.time (next_mark r) some all.run.ready soon);
    }

module _ (self r : RecordingState) (rows : List Row) (fed : (before : List Row) → IsRecordingOf before self → IsRecordingOf (before ++ rows) r) where
  on : (res : Result RecordingState Refusal) → IfOk res (λ x. x.run.config ≡ r.run.config) → IfOk res (λ x. (x.start ≡ r.start) × (x.every ≡ r.every)) → IfOk res (λ x. x.moments ≡ r.moments)
      → IfOk res (λ x. (all : List Row) → IsRunOn all r.run → IsRunOn all x.run) → IfOk res (λ x. (before : List Row) → IsRecordingOf before self → IsRecordingOf (before ++ rows) x)
  on (Err e) config marks same run = tt
  on (Ok x) config marks same run = λ before is. let all = fed before is in goes_recorded r x (before ++ rows) config marks.0 marks.1 (run (before ++ rows) all.run) all same

  met : (config : r.run.config ≡ self.run.config) (until last : ℕ) → until ≡ last → (res : Result RecordingState Refusal)
      → IfErr res (λ e. e ≡ Exhausted → (all : List Row) → IsRunOn all r.run → Meets (simulation r.run.config all) until is_exhausted)
      → IfErr res (λ e. e ≡ Exhausted → (before : List Row) → IsRecordingOf before self → Meets (simulation self.run.config (before ++ rows)) last is_exhausted)
  met config until last same (Ok x) h = tt
  met config until last same (Err e) h = λ is before recording.
      let all = fed before recording in
      subst (λ (k : Config). Meets (simulation k (before ++ rows)) last is_exhausted) config (subst (λ t. Meets (simulation r.run.config (before ++ rows)) t is_exhausted) same (h is (before ++ rows) all.run))

pub returns-clause-fed : goal.returns-clause-fed
returns-clause-fed c = on c.args.self c.marks.recording c.args.rows.items c.marks.invariant.fed c.run_until.result c.run_until.ensures.config c.run_until.ensures.marks c.run_until.ensures.same c.run_until.ensures.run

pub returns-clause-exhausted : goal.returns-clause-exhausted
returns-clause-exhausted c =
    let now = c.time.ensures ∙ ap (λ (v : RecordingState). v.run.time) c.self.view_is in
    let until = c.latest-until.ensures ∙ ap (last_time c.time.result) c.as_slice-piece.ensures.value ∙ ap (λ t. last_time t c.args.rows.items) now in
    met c.args.self c.marks.recording c.args.rows.items c.marks.invariant.fed c.marks.invariant.config c.latest-until.result (last_time c.args.self.run.time c.args.rows.items) until c.run_until.result c.run_until.ensures.exhausted

pub returns-then-is_empty-clause-time : goal.returns-then-is_empty-clause-time
returns-then-is_empty-clause-time c =
    let none = sym c.as_slice-piece.ensures.value ∙ none_left c.is_empty.result c.as_slice-piece.result.now c.is_empty.ensures c.if-is_empty.true in
    subst (λ rs. c.args.self.run.time ≡ last_time c.args.self.run.time rs) (sym none) refl

pub returns-in_err-recording-clause-exhausted : goal.returns-in_err-recording-clause-exhausted
returns-in_err-recording-clause-exhausted c = only_memory c.from_residual.result _ c.from_residual.ensures.1
