-- One more record is kept, left out or refused.
use Rattle.std.proofs.Common.{◌∙◌, ◌+◌, Bool, refl, sym, subst}
use Rattle.std.proofs.lemmas.Result.{err_from_is_err_and}
use Rattle.rw_trace.proofs.Piecewise.{where_none, where_some}
use Rattle.rw_import.specs.OracleStream.{TellsPiece, pieces_ahead}
use Rattle.rw_import.specs.Stream.{HasSentWhole}
use Rattle.rw_import.proofs.Collecting.{clamped-none, counts-none}
use Rattle.rw_import.proofs.OracleStreams.{pieces-all, pieces-more, pieces-none, pieces-refuses, reading-sent}
use Rattle.rw_import.proofs.Streams.{adds-same, appends-none, log-not-memory, sends-counted, sends-same}
use Rattle.rw_import.proofs.Written.{sent-before}
use Rattle.rw_import.proofs.oracle_stream.stream_pieces.Goals as goal

pub loop-row-init : goal.loop-row-init
loop-row-init g c =
    let stream = c.args.stream.now in
    let base = g.W.Write.contents c.args.out.now.writer in
    record {
      counts = (counts-none stream.left_out c.requires.fresh.left_out, clamped-none stream.clamped c.requires.fresh.clamped);
      failures = refl;
      reading = pieces-none c.args.options stream.epoch (pieces_ahead (g.R.Read.remaining c.args.reader.now)) base stream (appends-none base) refl c.requires.fresh;
    }

pub returns-in_default-clause-read : goal.returns-in_default-clause-read
returns-in_default-clause-read g c =
    let rem = g.R.Read.remaining in
    let contents = g.W.Write.contents in
    let stream = c.args.stream.now in
    let now = c.loop-row.stream in
    let ended = where_none c.in_default.is c.in_ok-told.ensures.none in
    pieces-all c.args.options stream.epoch (rem c.args.reader.now) (contents c.args.out.now.writer) (contents c.loop-row.out.writer) (pieces_ahead (rem c.loop-row.reader)) c.loop-row.row stream now
    (record now { epoch = c.next_told.new.epoch }) c.loop-row.invariant.reading refl ended.0 refl refl (record { kept = refl; latest = refl; left_out = refl; clamped = refl; kinds = refl })

pub returns-in_err-add_line-clause-fault : goal.returns-in_err-add_line-clause-fault
returns-in_err-add_line-clause-fault g c =
    let p = err_from_is_err_and c.from_residual-in_err-add_line.result c.from_residual-in_err-add_line.ensures.1 in
    let rem = g.R.Read.remaining in
    let contents = g.W.Write.contents in
    let stream = c.args.stream.now in
    let now = c.loop-row.stream in
    let told = record now { epoch = c.next_told.new.epoch } in
    let tells = where_some (TellsPiece c.args.options (rem c.loop-row.reader) (rem c.next_told.new.reader) now.epoch c.next_told.new.epoch) c.in-Some.is c.in_ok-told.ensures.some in
    rw (p.1, p.2)
    (λ log. pieces-refuses c.args.options stream.epoch (pieces_ahead (rem c.args.reader.now)) (rem c.loop-row.reader) (rem c.next_told.new.reader) (contents c.args.out.now.writer) (contents c.loop-row.out.writer) c.loop-row.row stream.kinds
    now told c.in-Some.told _ c.loop-row.invariant.reading tells refl refl (record { kept = refl; latest = refl; left_out = refl; clamped = refl; kinds = refl }) (c.in_err-add_line.ensures.refuses (log-not-memory _ log)))

pub loop-row-preserved : goal.loop-row-preserved
loop-row-preserved g c =
    let rem = g.R.Read.remaining in
    let contents = g.W.Write.contents in
    let stream = c.args.stream.now in
    let inv = c.loop-row.invariant in
    let now = c.loop-row.stream in
    let told = record now { epoch = c.next_told.new.epoch } in
    let new = c.add_line.new.stream in
    let sent = c.send_full.new.stream in
    let tells = where_some (TellsPiece c.args.options (rem c.loop-row.reader) (rem c.next_told.new.reader) now.epoch c.next_told.new.epoch) c.in-Some.is c.in_ok-told.ensures.some in
    let adds = adds-same c.args.options told new c.in-Some.told c.in_ok-add_line.ensures.adds in
    let sends = sends-same (contents c.loop-row.out.writer) (contents c.send_full.new.out.writer) new sent c.in_ok-send_full.ensures.sent in
    record {
      counts = sends-counted (c.loop-row.row + 1) (contents c.loop-row.out.writer) (contents c.send_full.new.out.writer) new sent c.in_ok-send_full.ensures.sent c.in_ok-add_line.ensures.after;
      failures = c.in_ok-send_full.ensures.failures ∙ inv.failures;
      reading = pieces-more c.args.options stream.epoch (pieces_ahead (rem c.args.reader.now)) (rem c.loop-row.reader) (rem c.next_told.new.reader) (contents c.args.out.now.writer) (contents c.loop-row.out.writer) (contents c.send_full.new.out.writer)
          c.loop-row.row stream.kinds now told new sent c.in-Some.told inv.reading tells refl refl (record { kept = refl; latest = refl; left_out = refl; clamped = refl; kinds = refl }) c.in_ok-add_line.ensures.adds c.in_ok-send_full.ensures.sent adds.0 sends.0 (sends.1 ∙ adds.1);
    }

-- what has gone out before a fault is whole
pub returns-in_err-told-clause-cut_off : goal.returns-in_err-told-clause-cut_off
returns-in_err-told-clause-cut_off g c = sent-before _ _ _ _ _ _ (reading-sent c.args.options c.args.stream.now.epoch _ _ _ _ _ _ _ c.loop-row.invariant.reading)

pub returns-in_err-add_line-clause-cut_off : goal.returns-in_err-add_line-clause-cut_off
returns-in_err-add_line-clause-cut_off g c =
    let sent = reading-sent c.args.options c.args.stream.now.epoch _ _ _ _ _ _ _ c.loop-row.invariant.reading in
    sent-before _ _ _ _ _ _ (subst (λ (b : Bool). HasSentWhole c.args.options.edges b c.args.stream.now.kinds (g.W.Write.contents c.args.out.now.writer) (g.W.Write.contents c.loop-row.out.writer)) (sym c.add_line.ensures.begun) sent)

pub returns-clause-cut_off : goal.returns-clause-cut_off
returns-clause-cut_off g c = λ _. reading-sent c.args.options c.args.stream.now.epoch _ _ _ _ _ _ _ c.loop-row.invariant.reading
