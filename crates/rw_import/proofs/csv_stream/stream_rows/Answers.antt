-- One more record is kept, left out or refused.
use Rattle.std.proofs.Common.{◌∙◌, ◌+◌, Bool, refl, sym, subst, true}
use Rattle.std.proofs.lemmas.Result.{err_from_is_err_and}
use Rattle.rw_trace.specs.Pieces.{records_ahead}
use Rattle.rw_trace.proofs.Piecewise.{where_none, where_some}
use Rattle.rw_import.specs.CsvStream.{ReadsLines, TellsRecord, records_told}
use Rattle.rw_import.specs.Csv.{IsOpenQuote}
use Rattle.rw_import.specs.Stream.{HasSentWhole}
use Rattle.rw_import.specs.Streamed.{IsFirstRefused}
use Rattle.rw_import.specs.Sheet.{texts_in}
use Rattle.rw_import.proofs.Collecting.{clamped-none, counts-none}
use Rattle.rw_import.proofs.CsvStreams.{is-next, reading-all, reading-more, reading-none, reading-refuses, reading-sent}
use Rattle.rw_import.proofs.OneLine.{lines-all, lines-more, lines-none, lines-open, some-inr}
use Rattle.rw_import.proofs.Streams.{adds-same, appends-none, log-not-memory, sends-counted, sends-same}
use Rattle.rw_import.proofs.Written.{sent-before}
use Rattle.rw_import.proofs.csv_stream.stream_rows.Goals as goal

pub loop-row-init : goal.loop-row-init
loop-row-init g c =
    let log = c.args.log.now in
    let stream = c.args.stream.now in
    let base = g.W.Write.contents c.args.out.now.writer in
    record {
      may = c.requires.may;
      places = refl;
      edges = refl;
      quotes = refl;
      lines = lines-none log.quotes (records_ahead g.R.Read.remaining log.reader);
      counts = (counts-none stream.left_out c.requires.fresh.left_out, clamped-none stream.clamped c.requires.fresh.clamped);
      failures = refl;
      reading = reading-none log.places log.edges c.args.options stream.epoch (records_ahead g.R.Read.remaining log.reader) base (texts_in log.texts) stream (appends-none base) c.requires.texts refl c.requires.fresh;
    }

pub returns-in_err-add_line-clause-fault : goal.returns-in_err-add_line-clause-fault
returns-in_err-add_line-clause-fault g c =
    let p = err_from_is_err_and c.from_residual-in_err-add_line.result c.from_residual-in_err-add_line.ensures.1 in
    let rem = g.R.Read.remaining in
    let first = c.args.log.now in
    let stream = c.args.stream.now in
    let inv = c.loop-row.invariant in
    let now = c.loop-row.stream in
    let told = record now { epoch = c.next_told.new.epoch } in
    let tells = where_some (TellsRecord rem c.args.options c.loop-row.log c.next_told.new.log now.epoch c.next_told.new.epoch) c.in-Some.is c.in_ok-told.ensures.some in
    let next = is-next rem first.places first.edges c.args.options stream.epoch c.loop-row.log c.next_told.new.log now.epoch c.next_told.new.epoch stream.kinds c.in-Some.told inv.places inv.edges c.requires.edges c.requires.kinds tells in
    rw (p.1, p.2)
    (λ log. some-inr (λ all. IsOpenQuote first.quotes all _) (λ all. IsFirstRefused c.args.options (records_told first.places first.edges c.args.options stream.epoch all) _) (records_ahead rem first.reader) (reading-refuses first.places first.edges c.args.options stream.epoch (records_ahead rem first.reader) (records_ahead rem c.loop-row.log.reader) (records_ahead rem c.next_told.new.log.reader)
    (g.W.Write.contents c.args.out.now.writer) (g.W.Write.contents c.loop-row.out.writer) c.loop-row.row (texts_in c.loop-row.log.texts) (texts_in c.next_told.new.log.texts) stream.kinds now told c.in-Some.told _ inv.reading next refl refl
    (record { kept = refl; latest = refl; left_out = refl; clamped = refl; kinds = refl }) (c.in_err-add_line.ensures.refuses (log-not-memory _ log))))

pub loop-row-preserved : goal.loop-row-preserved
loop-row-preserved g c =
    let rem = g.R.Read.remaining in
    let contents = g.W.Write.contents in
    let first = c.args.log.now in
    let stream = c.args.stream.now in
    let inv = c.loop-row.invariant in
    let now = c.loop-row.stream in
    let told = record now { epoch = c.next_told.new.epoch } in
    let new = c.add_line.new.stream in
    let sent = c.send_full.new.stream in
    let tells = where_some (TellsRecord rem c.args.options c.loop-row.log c.next_told.new.log now.epoch c.next_told.new.epoch) c.in-Some.is c.in_ok-told.ensures.some in
    let next = is-next rem first.places first.edges c.args.options stream.epoch c.loop-row.log c.next_told.new.log now.epoch c.next_told.new.epoch stream.kinds c.in-Some.told inv.places inv.edges c.requires.edges c.requires.kinds tells in
    let adds = adds-same c.args.options told new c.in-Some.told c.in_ok-add_line.ensures.adds in
    let sends = sends-same (contents c.loop-row.out.writer) (contents c.send_full.new.out.writer) new sent c.in_ok-send_full.ensures.sent in
    record {
      may = c.next_told.ensures.may;
      places = c.next_told.ensures.places ∙ inv.places;
      edges = c.next_told.ensures.edges ∙ inv.edges;
      quotes = c.next_told.ensures.quotes ∙ inv.quotes;
      lines = lines-more rem first.quotes (records_ahead rem first.reader) c.loop-row.log c.next_told.new.log inv.quotes inv.lines (where_some (λ _. ReadsLines rem c.loop-row.log.quotes c.loop-row.log.reader c.next_told.new.log.reader true) c.in-Some.is c.in_ok-told.ensures.lines);
      counts = sends-counted (c.loop-row.row + 1) (contents c.loop-row.out.writer) (contents c.send_full.new.out.writer) new sent c.in_ok-send_full.ensures.sent c.in_ok-add_line.ensures.after;
      failures = c.in_ok-send_full.ensures.failures ∙ inv.failures;
      reading = reading-more first.places first.edges c.args.options stream.epoch (records_ahead rem first.reader) (records_ahead rem c.loop-row.log.reader) (records_ahead rem c.next_told.new.log.reader)
          (contents c.args.out.now.writer) (contents c.loop-row.out.writer) (contents c.send_full.new.out.writer) c.loop-row.row (texts_in c.loop-row.log.texts) (texts_in c.next_told.new.log.texts) stream.kinds now told new sent c.in-Some.told
          inv.reading next refl refl (record { kept = refl; latest = refl; left_out = refl; clamped = refl; kinds = refl }) c.in_ok-add_line.ensures.adds c.in_ok-send_full.ensures.sent adds.0 sends.0 (sends.1 ∙ adds.1);
    }

pub returns-in_default-clause-read : goal.returns-in_default-clause-read
returns-in_default-clause-read g c =
    let rem = g.R.Read.remaining in
    let contents = g.W.Write.contents in
    let first = c.args.log.now in
    let stream = c.args.stream.now in
    let now = c.loop-row.stream in
    let ended = where_none c.in_default.is c.in_ok-told.ensures.none in
    reading-all first.places first.edges c.args.options stream.epoch rem first (contents c.args.out.now.writer) (contents c.loop-row.out.writer) (records_ahead rem c.loop-row.log.reader) c.loop-row.row (texts_in c.loop-row.log.texts) stream now
    (record now { epoch = c.next_told.new.epoch }) c.loop-row.invariant.reading refl refl refl ended.0 refl refl (record { kept = refl; latest = refl; left_out = refl; clamped = refl; kinds = refl })

-- line ends stand only where they may, or this is why the log is refused
pub returns-in_default-clause-lines : goal.returns-in_default-clause-lines
returns-in_default-clause-lines g c =
    let ended = where_none c.in_default.is c.in_ok-told.ensures.none in
    lines-all c.args.log.now.quotes (records_ahead g.R.Read.remaining c.args.log.now.reader) (records_ahead g.R.Read.remaining c.loop-row.log.reader) c.loop-row.invariant.lines ended.0

pub returns-in_err-told-clause-fault : goal.returns-in_err-told-clause-fault
returns-in_err-told-clause-fault g c =
    let p = err_from_is_err_and c.from_residual.result c.from_residual.ensures.1 in
    let rem = g.R.Read.remaining in
    let first = c.args.log.now in
    rw (p.1, p.2)
    (λ log. lines-open rem first.quotes (records_ahead rem first.reader) (λ all. IsFirstRefused c.args.options (records_told first.places first.edges c.args.options c.args.stream.now.epoch all) _) c.loop-row.log c.next_told.new.log _ c.loop-row.invariant.quotes c.loop-row.invariant.lines log c.in_err-told.ensures.refused)

-- what has gone out before a fault is whole
pub returns-in_err-told-clause-cut_off : goal.returns-in_err-told-clause-cut_off
returns-in_err-told-clause-cut_off g c = sent-before _ _ _ _ _ _ (reading-sent c.args.log.now.places c.args.log.now.edges c.args.options c.args.stream.now.epoch _ _ _ _ _ _ _ _ c.loop-row.invariant.reading)

pub returns-in_err-add_line-clause-cut_off : goal.returns-in_err-add_line-clause-cut_off
returns-in_err-add_line-clause-cut_off g c =
    let sent = reading-sent c.args.log.now.places c.args.log.now.edges c.args.options c.args.stream.now.epoch _ _ _ _ _ _ _ _ c.loop-row.invariant.reading in
    sent-before _ _ _ _ _ _ (subst (λ (b : Bool). HasSentWhole c.args.log.now.edges b c.args.stream.now.kinds (g.W.Write.contents c.args.out.now.writer) (g.W.Write.contents c.loop-row.out.writer)) (sym c.add_line.ensures.begun) sent)

pub returns-clause-cut_off : goal.returns-clause-cut_off
returns-clause-cut_off g c = λ _. reading-sent c.args.log.now.places c.args.log.now.edges c.args.options c.args.stream.now.epoch _ _ _ _ _ _ _ _ c.loop-row.invariant.reading
