use Rattle.std.proofs.Common.{◌∙◌, ap}
use Rattle.std.specs.Prelude.{unwrap_or}
use Rattle.rw_vt.specs.Limits.{end_of_time}
use Rattle.rw_report.specs.declared.sim_fault.SimFault.{SimFault}
use Rattle.rw_report.specs.declared.sim_fault.SimFault.TheVariants as sim
use Rattle.rw_trace.specs.Pieces.{Ahead}
use Rattle.rw_photo.specs.declared.config.Config.{Config}
use Rattle.rw_report.specs.declared.intervals.Outlook.{Outlook}
use Rattle.rw_report.specs.Intervals.{told_of}
use Rattle.rw_report.specs.Replay.{IsRowsTextFault}
use Rattle.rw_report.specs.Streams.{IsStreamFault}
use Rattle.rw_report.proofs.Failing.{handed-on}
use Rattle.rw_report.proofs.Recorded.{history_of}
use Rattle.rw_report.proofs.Told.{tells}
use Rattle.rw_report.proofs.running.text_of_rows.Goals as goal

stream_fault : (c : Config) (o : Outlook) (ahead : Ahead) (e : SimFault) → IsStreamFault c ahead e → IsRowsTextFault c o ahead e
stream_fault c o ahead (sim.Trace f) h = h
stream_fault c o ahead sim.Read h = tt
stream_fault c o ahead sim.Memory h = tt
stream_fault c o ahead sim.Rounds h = absurd h
stream_fault c o ahead sim.NoThread h = absurd h
stream_fault c o ahead sim.Exhausted h = h
stream_fault c o ahead sim.Plan h = absurd h
stream_fault c o ahead sim.Output h = absurd h

pub returns-in_err-moments-clause-fault : goal.returns-in_err-moments-clause-fault
returns-in_err-moments-clause-fault g c =
    let config : Config = c.args.config.now in
    let ahead = (g.S.RowSource.rest c.args.rows.now).ahead in
    let e = c.in_err-moments.field-0.0 in
    handed-on c.from_residual.result e (IsRowsTextFault config c.args.outlook ahead) c.from_residual.ensures.1
    (stream_fault config c.args.outlook ahead e c.in_err-moments.ensures.fault)

pub returns-clause-text : goal.returns-clause-text
returns-clause-text g c =
    let config : Config = c.args.config.now in
    let o = c.args.outlook in
    let ms = c.in_ok-moments.moments.items in
    let streamed = c.in_ok-moments.ensures.streamed in
    record {
      rows = streamed.rows;
      given = streamed.given;
      rising = streamed.rising;
      tells = tells config streamed.rows streamed.ready o ms c.in_ok-tell.field-0.items
          (history_of streamed.rows config config c.in-Some.marks.start (unwrap_or o.warm_up 0) c.in-Some.marks.every (unwrap_or o.every end_of_time) ms ms (λ i. config) c.in-Some.ensures.marks.0 c.in-Some.ensures.marks.1 (λ i. ms) streamed.history)
          (c.in_ok-tell.ensures ∙ ap (told_of config o) c.as_slice.ensures.value);
    }
