use Rattle.std.proofs.Common.{◌≡◌, ◌++◌, List, [], rules, sym, subst, ◌∙◌, ap, arith, length, length-append, append_assoc, append-nil}
use Rattle.std.specs.Prelude.{All}
use Rattle.std.proofs.lemmas.List.{take-append-drop}
use Rattle.std.proofs.lemmas.Result.{err_from_is_err_and}
use Rattle.rw_vt.specs.Limits.{end_of_time}
use Rattle.rw_vt.specs.System.{Meets}
use Rattle.rw_trace.specs.declared.Row.{Row}
use Rattle.rw_trace.specs.Laws.{IsRow}
use Rattle.rw_trace.specs.Pieces.{RiseFrom, last_time}
use Rattle.rw_photo.specs.declared.config.Config.{Config}
use Rattle.rw_photo.specs.Cache.{is_exhausted}
use Rattle.rw_photo.specs.Simulation.{simulation}
use Rattle.rw_report.specs.History.{IsHistory, IsRecordingOf}
use Rattle.rw_report.proofs.Failing.{any_ok, if_err_weaker, if_ok_weaker}
use Rattle.rw_report.proofs.Longer.{meets_longer, ready_longer}
use Rattle.rw_report.proofs.Recorded.{history_of, last_early, meets_all, rising_late}
use Rattle.rw_report.proofs.Streamed.{all_behind, all_first, none_left, rise_behind, rise_first}
use Rattle.rw_report.proofs.streaming.record_in_order.Goals as goal

pub feed-requires-clause-rising : goal.feed-requires-clause-rising
feed-requires-clause-rising g c =
    let inv = c.pieces.invariant in
    let piece = c.split_at.result.0.now in
    let later = c.split_at.result.1.now in
    let both : piece ++ later ≡ c.pieces.rest.now = (λ i. c.split_at.ensures.front i ++ c.split_at.ensures.back i) ∙ take-append-drop _ c.pieces.rest.now in
    rise_first c.pieces.recorded.run.time piece later (subst (RiseFrom c.pieces.recorded.run.time) (sym both) inv.6)

pub returns-in_err-recorded-clause-exhausted : goal.returns-in_err-recorded-clause-exhausted
returns-in_err-recorded-clause-exhausted g c =
    let inv = c.pieces.invariant in
    let r = c.pieces.recorded in
    let k : Config = r.run.config in
    let piece : List Row = c.split_at.result.0.now in
    let later : List Row = c.split_at.result.1.now in
    let both : piece ++ later ≡ c.pieces.rest.now = (λ i. c.split_at.ensures.front i ++ c.split_at.ensures.back i) ∙ take-append-drop _ c.pieces.rest.now in
    let up = subst (RiseFrom r.run.time) (sym both) inv.6 in
    let ranges = subst (All (IsRow k.edges)) (sym both) inv.8 in
    let until = last_time r.run.time piece in
    let whole : c.args.rows.now ≡ (inv.0 ++ piece) ++ later = inv.1 ∙ ap (λ l. inv.0 ++ l) (sym both) ∙ sym (append_assoc inv.0 piece later) in
    let long = ap length whole ∙ length-append (inv.0 ++ piece) later in
    let front = length-append inv.0 piece in
    let few = c.requires.few in
    let ready = ready_longer k inv.0 piece (omega (arith, long, front, few)) (all_first (IsRow k.edges) piece later ranges) inv.2.run.ready in
    let all = ready_longer k (inv.0 ++ piece) later (omega (arith, long, few)) (all_behind (IsRow k.edges) piece later ranges) ready in
    let p = err_from_is_err_and c.from_residual.result c.from_residual.ensures.1 in
    rw (p.1, p.2) (λ e.
    let met = c.in_err-recorded.ensures.exhausted e inv.0 inv.2 in
    let longer = meets_longer k (inv.0 ++ piece) later until (omega (arith, long, few)) (all_behind (IsRow k.edges) piece later ranges) (rising_late until later (rise_behind r.run.time piece later up)) ready met in
    subst (λ (x : Config). Meets (simulation x c.args.rows.now) end_of_time is_exhausted) inv.3
    (subst (λ rs. Meets (simulation k rs) end_of_time is_exhausted) (sym whole) (meets_all k ((inv.0 ++ piece) ++ later) until all longer)))

pub pieces-preserved : goal.pieces-preserved
pieces-preserved g c =
    let inv = c.pieces.invariant in
    let r = c.pieces.recorded in
    let after = c.in_ok-recorded.recorded in
    let told = c.in_ok-recorded.ensures in
    let k : Config = r.run.config in
    let piece : List Row = c.split_at.result.0.now in
    let later : List Row = c.split_at.result.1.now in
    let both : piece ++ later ≡ c.pieces.rest.now = (λ i. c.split_at.ensures.front i ++ c.split_at.ensures.back i) ∙ take-append-drop _ c.pieces.rest.now in
    let up = subst (RiseFrom r.run.time) (sym both) inv.6 in
    let ranges = subst (All (IsRow k.edges)) (sym both) inv.8 in
    let early = last_early r.run.time k.edges piece inv.7 (all_first (IsRow k.edges) piece later ranges) in
    let time = told.time in (
      inv.0 ++ piece,
      inv.1 ∙ ap (λ l. inv.0 ++ l) (sym both) ∙ sym (append_assoc inv.0 piece later),
      told.fed inv.0 inv.2,
      told.config ∙ inv.3,
      told.marks.0 ∙ inv.4,
      told.marks.1 ∙ inv.5,
      subst (λ t. RiseFrom t later) (sym time) (rise_behind r.run.time piece later up),
      omega (arith, time, early),
      subst (λ (x : Config). All (IsRow x.edges) later) (sym told.config) (all_behind (IsRow k.edges) piece later ranges),
    )

pub returns-clause-recorded : goal.returns-clause-recorded
returns-clause-recorded g c =
    let inv = c.pieces.invariant in
    let none : c.pieces.rest.now ≡ [] = none_left c.is_empty.result c.pieces.rest.now c.is_empty.ensures (search rules) in
    let whole : c.args.rows.now ≡ inv.0 = inv.1 ∙ ap (λ l. inv.0 ++ l) none ∙ append-nil inv.0 in
    any_ok c.finish.result _ (c.pieces.recorded, subst (λ rs. IsRecordingOf rs c.pieces.recorded) (sym whole) inv.2, inv.3)

pub returns-clause-history : goal.returns-clause-history
returns-clause-history g c =
    let inv = c.pieces.invariant in
    let r = c.pieces.recorded in
    let none : c.pieces.rest.now ≡ [] = none_left c.is_empty.result c.pieces.rest.now c.is_empty.ensures (search rules) in
    let whole : c.args.rows.now ≡ inv.0 = inv.1 ∙ ap (λ l. inv.0 ++ l) none ∙ append-nil inv.0 in
    if_ok_weaker c.finish.result (λ ms. (rs : List Row) → IsRecordingOf rs r → IsHistory (simulation r.run.config rs) r.start r.every ms.items)
    (λ ms. IsHistory (simulation c.args.recording.run.config c.args.rows.now) c.args.recording.start c.args.recording.every ms.items)
    (λ ms of_all. subst (λ rs. IsHistory (simulation c.args.recording.run.config rs) c.args.recording.start c.args.recording.every ms.items) (sym whole)
    (history_of inv.0 r.run.config c.args.recording.run.config r.start c.args.recording.start r.every c.args.recording.every ms.items ms.items inv.3 inv.4 inv.5 (λ i. ms.items) (of_all inv.0 inv.2)))
    c.finish.ensures.history

pub returns-clause-exhausted : goal.returns-clause-exhausted
returns-clause-exhausted g c =
    let inv = c.pieces.invariant in
    let r = c.pieces.recorded in
    let none : c.pieces.rest.now ≡ [] = none_left c.is_empty.result c.pieces.rest.now c.is_empty.ensures (search rules) in
    let whole : c.args.rows.now ≡ inv.0 = inv.1 ∙ ap (λ l. inv.0 ++ l) none ∙ append-nil inv.0 in
    if_err_weaker c.finish.result _ _
    (λ e met is. subst (λ (x : Config). Meets (simulation x c.args.rows.now) end_of_time is_exhausted) inv.3 (subst (λ rs. Meets (simulation r.run.config rs) end_of_time is_exhausted) (sym whole) (met is inv.0 inv.2)))
    c.finish.ensures.exhausted

pub feed-requires-clause-few : goal.feed-requires-clause-few
feed-requires-clause-few g c =
    let inv = c.pieces.invariant in
    let piece : List Row = c.split_at.result.0.now in
    let later : List Row = c.split_at.result.1.now in
    let both : piece ++ later ≡ c.pieces.rest.now = (λ i. c.split_at.ensures.front i ++ c.split_at.ensures.back i) ∙ take-append-drop _ c.pieces.rest.now in
    let whole = ap length inv.1 ∙ length-append inv.0 c.pieces.rest.now in
    let parts = ap length (sym both) ∙ length-append piece later in
    let taken = inv.2.run.taken in
    let few = c.requires.few in
    omega (arith, whole, parts, taken, few)
