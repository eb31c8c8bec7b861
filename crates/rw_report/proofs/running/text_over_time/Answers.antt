use Rattle.std.proofs.Common.{◌≡◌, ◌^◌, List, Ok, ap, ◌∙◌, subst}
use Rattle.std.specs.Prelude.{unwrap_or}
use Rattle.rw_vt.specs.Limits.{end_of_time}
use Rattle.rw_vt.specs.System.{IsReady, map_from}
use Rattle.rw_trace.specs.declared.Row.{Row}
use Rattle.rw_trace.specs.Trace.{trace_of}
use Rattle.rw_trace.specs.Unread.{records_of}
use Rattle.rw_photo.specs.declared.config.Config.{Config}
use Rattle.rw_photo.specs.contracts.photo.PhotoVtModel.TheImpl as model
use Rattle.rw_photo.specs.Events.{event_of}
use Rattle.rw_photo.specs.Simulation.{simulation, starts_of}
use Rattle.rw_report.specs.History.{IsHistory}
use Rattle.rw_report.specs.Intervals.{told_of}
use Rattle.rw_report.proofs.Recorded.{history_of}
use Rattle.rw_report.proofs.Told.{tells}
use Rattle.rw_report.proofs.running.text_over_time.Goals as goal

pub returns-clause-text : goal.returns-clause-text
returns-clause-text g c =
    let config : Config = c.args.config.now in
    let o = c.args.outlook in
    let rows : List Row = c.in_ok-trace.trace.items in
    let ms = c.in_ok-moments.moments.items in
    let same = c.as_slice.ensures.value in
    let ready = subst (λ rs. IsReady model.ghosts (record { config = config }) (starts_of config) (map_from 0 event_of rs)) same c.in_ok-moments.ensures.ready in
    let history = subst (λ rs. IsHistory (simulation config rs) c.in-Some.marks.start c.in-Some.marks.every ms) same c.in_ok-moments.ensures.history in
    record {
      rows = rows;
      accepted = subst (λ n. trace_of n (2 ^ 24) (records_of c.args.bytes.now) ≡ Ok rows) c.edges.ensures c.in_ok-trace.ensures.rows;
      tells = tells config rows ready o ms c.in_ok-tell.field-0.items
          (history_of rows config config c.in-Some.marks.start (unwrap_or o.warm_up 0) c.in-Some.marks.every (unwrap_or o.every end_of_time) ms ms (λ i. config) c.in-Some.ensures.marks.0 c.in-Some.ensures.marks.1 (λ i. ms) history)
          (c.in_ok-tell.ensures ∙ ap (told_of config o) c.as_slice-2.ensures.value);
    }
