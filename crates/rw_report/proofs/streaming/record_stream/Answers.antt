use Rattle.std.proofs.Common.{◌≡◌, ◌<◌, ◌++◌, List, inl, inr, refl, sym, subst, ◌∙◌, ap, arith, length, length-append}
use Rattle.rw_vt.specs.Limits.{end_of_time}
use Rattle.rw_vt.specs.System.{IsReady, Meets, map_from}
use Rattle.rw_trace.specs.declared.Row.{Row}
use Rattle.rw_trace.specs.Pieces.{RiseFrom, last_time}
use Rattle.rw_trace.proofs.Piecewise.{refused_behind}
use Rattle.rw_report.specs.Faults.{sim_refusal_of, sim_rows_fault_of}
use Rattle.rw_photo.specs.declared.config.Config.{Config}
use Rattle.rw_photo.specs.contracts.photo.PhotoVtModel.TheImpl as model
use Rattle.rw_photo.specs.Cache.{is_exhausted}
use Rattle.rw_photo.specs.Events.{event_of}
use Rattle.rw_photo.specs.Simulation.{simulation, starts_of}
use Rattle.rw_report.specs.Streams.{IsStreamFault}
use Rattle.rw_report.proofs.Failing.{handed-on}
use Rattle.rw_report.proofs.Recorded.{history_of, last_early}
use Rattle.rw_report.proofs.Streamed.{first_end, first_on, first_or_all, last_on, rise_on, rows_fault, run_fault}
use Rattle.rw_report.proofs.streaming.record_stream.Goals as goal

pub returns-in_err-next_piece-clause-fault : goal.returns-in_err-next_piece-clause-fault
returns-in_err-next_piece-clause-fault g c =
    let ahead = (g.S.RowSource.rest c.args.rows.now).ahead in
    let inv = c.pieces.invariant in
    let e = c.in_err-next_piece.field-0.0 in
    handed-on c.from_residual-in_err-next_piece.result (sim_rows_fault_of e) (IsStreamFault c.args.config.now ahead) c.from_residual-in_err-next_piece.ensures.1
    (rows_fault c.args.config.now ahead e (refused_behind ahead (g.S.RowSource.rest c.pieces.rows).ahead inv.0 e inv.2 c.in_err-next_piece.ensures.refused))

pub returns-in_err-recording-2-clause-fault : goal.returns-in_err-recording-2-clause-fault
returns-in_err-recording-2-clause-fault g c =
    let ahead = (g.S.RowSource.rest c.args.rows.now).ahead in
    let inv = c.pieces.invariant in
    let r = c.pieces.recording in
    let told = c.in_ok-next_piece.ensures in
    let piece : List Row = c.next_piece.new.piece.items in
    let e = c.in_err-recording-2.field-0.0 in
    let until = last_time r.run.time piece in
    let at = ap (λ t. last_time t piece) (inv.5 ∙ inv.4) in
    let last = last_on 0 inv.0 piece in
    handed-on c.from_residual-in_err-recording-2.result (sim_refusal_of e) (IsStreamFault c.args.config.now ahead) c.from_residual-in_err-recording-2.ensures.1
    (run_fault c.args.config.now ahead e (λ is. record {
      rows = inv.0 ++ piece;
      rest = (g.S.RowSource.rest c.next_piece.new.source).ahead;
      until = until;
      first = first_or_all 4096 ahead (g.S.RowSource.rest c.pieces.rows).ahead (g.S.RowSource.rest c.next_piece.new.source).ahead inv.0 piece inv.2 told.few told.first told.all;
      rising = rise_on 0 inv.0 piece inv.3 (subst (λ t. RiseFrom t piece) inv.4 told.rising);
      soon = inl (omega (arith, at, last));
      met = subst (λ (k : Config). Meets (simulation k (inv.0 ++ piece)) until is_exhausted) inv.9
          (c.in_err-recording-2.ensures.exhausted is inv.0 inv.1);
    }))

pub finish-requires : goal.finish-requires
finish-requires g c =
    let inv = c.pieces.invariant in
    let r = c.pieces.recording in
    let piece : List Row = c.next_piece.new.piece.items in
    let time = c.in_ok-recording-2.ensures.time in
    let early = last_early r.run.time (g.S.RowSource.rest c.pieces.rows).edges piece (omega (arith, inv.5, inv.6)) c.in_ok-next_piece.ensures.ranges in
    omega (arith, time, early)

pub returns-in_err-finish-clause-fault : goal.returns-in_err-finish-clause-fault
returns-in_err-finish-clause-fault g c =
    let ahead = (g.S.RowSource.rest c.args.rows.now).ahead in
    let inv = c.pieces.invariant in
    let r = c.pieces.recording in
    let after = c.in_ok-recording-2.recording in
    let told = c.in_ok-next_piece.ensures in
    let piece : List Row = c.next_piece.new.piece.items in
    let e = c.in_err-finish.field-0.0 in
    let short : length piece < 4096 = omega (arith, c.if-count-lt-PIECE.true, c.len-count.ensures) in
    let all = first_end ahead (g.S.RowSource.rest c.pieces.rows).ahead inv.0 piece inv.2 (told.all short) in
    let is_all = c.in_ok-recording-2.ensures.fed inv.0 inv.1 in
    handed-on c.from_residual-in_err-finish.result (sim_refusal_of e) (IsStreamFault c.args.config.now ahead) c.from_residual-in_err-finish.ensures.1
    (run_fault c.args.config.now ahead e (λ is. record {
      rows = inv.0 ++ piece;
      rest = (g.S.RowSource.rest c.next_piece.new.source).ahead;
      until = end_of_time;
      first = inr all;
      rising = rise_on 0 inv.0 piece inv.3 (subst (λ t. RiseFrom t piece) inv.4 told.rising);
      soon = inr (all, refl);
      met = subst (λ (k : Config). Meets (simulation k (inv.0 ++ piece)) end_of_time is_exhausted) (c.in_ok-recording-2.ensures.config ∙ inv.9) (c.in_err-finish.ensures.exhausted is (inv.0 ++ piece) is_all);
    }))

pub returns-then-count-lt-PIECE-clause-streamed : goal.returns-then-count-lt-PIECE-clause-streamed
returns-then-count-lt-PIECE-clause-streamed g c =
    let ahead = (g.S.RowSource.rest c.args.rows.now).ahead in
    let inv = c.pieces.invariant in
    let after = c.in_ok-recording-2.recording in
    let ran = c.in_ok-recording-2.ensures in
    let told = c.in_ok-next_piece.ensures in
    let piece : List Row = c.next_piece.new.piece.items in
    let short : length piece < 4096 = omega (arith, c.if-count-lt-PIECE.true, c.len-count.ensures) in
    let all = first_end ahead (g.S.RowSource.rest c.pieces.rows).ahead inv.0 piece inv.2 (told.all short) in
    let is_all = ran.fed inv.0 inv.1 in
    let ms = c.in_ok-finish.field-0.items in
    record {
      rows = inv.0 ++ piece;
      given = all;
      rising = rise_on 0 inv.0 piece inv.3 (subst (λ t. RiseFrom t piece) inv.4 told.rising);
      ready = subst (λ (k : Config). IsReady model.ghosts (record { config = k }) (starts_of k) (map_from 0 event_of (inv.0 ++ piece))) (ran.config ∙ inv.9) is_all.run.ready;
      history = history_of (inv.0 ++ piece) after.run.config c.args.config.now after.start c.args.marks.start after.every c.args.marks.every ms ms (ran.config ∙ inv.9) (ran.marks.0 ∙ inv.10) (ran.marks.1 ∙ inv.11) refl (c.in_ok-finish.ensures.history (inv.0 ++ piece) is_all);
    }

pub pieces-preserved : goal.pieces-preserved
pieces-preserved g c =
    let ahead = (g.S.RowSource.rest c.args.rows.now).ahead in
    let inv = c.pieces.invariant in
    let r = c.pieces.recording in
    let after = c.in_ok-recording-2.recording in
    let ran = c.in_ok-recording-2.ensures in
    let told = c.in_ok-next_piece.ensures in
    let next = g.S.RowSource.rest c.next_piece.new.source in
    let piece : List Row = c.next_piece.new.piece.items in
    let full : length piece ≡ 4096 = omega (arith, c.if-count-lt-PIECE.false, c.len-count.ensures, told.few) in
    let is_all = ran.fed inv.0 inv.1 in
    let time = ran.time in
    let at = ap (λ t. last_time t piece) inv.5 in
    let early = last_early (g.S.RowSource.rest c.pieces.rows).latest (g.S.RowSource.rest c.pieces.rows).edges piece inv.6 told.ranges in
    let latest = told.latest in
    let long = length-append inv.0 piece in
    let most = told.most in (
      inv.0 ++ piece,
      is_all,
      first_on ahead (g.S.RowSource.rest c.pieces.rows).ahead next.ahead inv.0 piece inv.2 (told.first full),
      rise_on 0 inv.0 piece inv.3 (subst (λ t. RiseFrom t piece) inv.4 told.rising),
      latest ∙ ap (λ t. last_time t piece) inv.4 ∙ sym (last_on 0 inv.0 piece),
      time ∙ at ∙ sym latest,
      omega (arith, latest, early),
      told.edges ∙ inv.7,
      omega (arith, long, most, inv.8),
      ran.config ∙ inv.9,
      ran.marks.0 ∙ inv.10,
      ran.marks.1 ∙ inv.11,
    )
