use Rattle.std.proofs.Common.{◌≡◌, List, [], subst, sym, ◌∙◌}
use Rattle.std.specs.Prelude.{All, IfErr}
use Rattle.rw_vt.specs.Limits.{end_of_time}
use Rattle.rw_vt.specs.System.{IsReady, Meets, map_from}
use Rattle.rw_vt.specs.declared.refusal.Refusal.TheVariants.{Exhausted}
use Rattle.rw_trace.specs.declared.Row.{Row}
use Rattle.rw_trace.specs.Laws.{IsRow}
use Rattle.rw_photo.specs.declared.config.Config.{Config}
use Rattle.rw_photo.specs.contracts.photo.PhotoVtModel.TheImpl as model
use Rattle.rw_photo.specs.Cache.{is_exhausted}
use Rattle.rw_photo.specs.Events.{event_of}
use Rattle.rw_photo.specs.Simulation.{simulation, starts_of}
use Rattle.rw_report.specs.History.{IsHistory, IsRecordingOf}
use Rattle.rw_report.proofs.Failing.{any_ok, if_err_weaker, if_ok_weaker, only_memory}
use Rattle.rw_report.proofs.Recorded.{history_of}
use Rattle.rw_report.proofs.streaming.record_rows.Goals as goal

-- rows in no order: all are taken in before the first is run

pub returns-clause-ready : goal.returns-clause-ready
returns-clause-ready g c =
    let told = c.in_ok-recording-2.ensures in
    let is = told.taken [] c.in_ok-recording.ensures.none in
    any_ok c.finish.result _ (subst (λ (k : Config). IsReady model.ghosts (record { config = k }) (starts_of k) (map_from 0 event_of c.args.rows.now)) (told.config ∙ c.in_ok-recording.ensures.config) is.run.ready)

pub returns-clause-history : goal.returns-clause-history
returns-clause-history g c =
    let told = c.in_ok-recording-2.ensures in
    let first = c.in_ok-recording.ensures in
    let r = c.in_ok-recording-2.recording in
    let is = told.taken [] first.none in
    if_ok_weaker c.finish.result (λ ms. (rs : List Row) → IsRecordingOf rs r → IsHistory (simulation r.run.config rs) r.start r.every ms.items)
    (λ ms. IsHistory (simulation c.args.config.now c.args.rows.now) c.args.marks.start c.args.marks.every ms.items)
    (λ ms of_all. history_of c.args.rows.now r.run.config c.args.config.now r.start c.args.marks.start r.every c.args.marks.every ms.items ms.items (told.config ∙ first.config) (told.marks.0 ∙ first.marks.0) (told.marks.1 ∙ first.marks.1) (λ i. ms.items) (of_all c.args.rows.now is))
    c.finish.ensures.history

pub returns-clause-exhausted : goal.returns-clause-exhausted
returns-clause-exhausted g c =
    let told = c.in_ok-recording-2.ensures in
    let is = told.taken [] c.in_ok-recording.ensures.none in
    if_err_weaker c.finish.result _ _
    (λ e met same. subst (λ (k : Config). Meets (simulation k c.args.rows.now) end_of_time is_exhausted) (told.config ∙ c.in_ok-recording.ensures.config) (met same c.args.rows.now is))
    c.finish.ensures.exhausted

pub take-requires-clause-ranges : goal.take-requires-clause-ranges
take-requires-clause-ranges g c = subst (λ (k : Config). All (IsRow k.edges) c.args.rows.now) (sym c.in_ok-recording.ensures.config) c.requires.ranges

pub returns-in_err-recording-2-clause-exhausted : goal.returns-in_err-recording-2-clause-exhausted
returns-in_err-recording-2-clause-exhausted g c = only_memory c.from_residual-in_err-recording-2.result _ c.from_residual-in_err-recording-2.ensures.1

-- rows in order of time

pub record_in_order-requires-clause-none : goal.record_in_order-requires-clause-none
record_in_order-requires-clause-none g c = c.in_ok-recording.ensures.none

pub record_in_order-requires-clause-ranges : goal.record_in_order-requires-clause-ranges
record_in_order-requires-clause-ranges g c = subst (λ (k : Config). All (IsRow k.edges) c.args.rows.now) (sym c.in_ok-recording.ensures.config) c.requires.ranges

pub returns-then-is_rising-clause-exhausted : goal.returns-then-is_rising-clause-exhausted
returns-then-is_rising-clause-exhausted g c =
    subst (λ (k : Config). IfErr c.record_in_order.result (λ e. e ≡ Exhausted → Meets (simulation k c.args.rows.now) end_of_time is_exhausted))
    c.in_ok-recording.ensures.config c.record_in_order.ensures.exhausted
