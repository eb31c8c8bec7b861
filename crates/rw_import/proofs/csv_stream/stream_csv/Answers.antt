-- Behind the header, what is read and written is what the log means.
use Rattle.std.proofs.Common.{◌∙◌, sym}
use Rattle.std.proofs.lemmas.Result.{IfOk-weaker}
use Rattle.rw_import.specs.CsvStream.{HasReadCsv, records_rows, records_told}
use Rattle.rw_import.specs.Log.{IsErrorOfLosses}
use Rattle.rw_import.specs.Stream.{counts_so_far}
use Rattle.rw_import.proofs.Columns.{edges-behind, kinds-behind}
use Rattle.rw_import.proofs.CsvWritten.{IsCsvWritten, csv-lines, csv-refused, csv-written, few-edges, numbered-since}
use Rattle.rw_import.proofs.Written.{answer-cut-off, enough-counted, judged-cut-off, whole-read, nothing-before}
use Rattle.rw_import.proofs.csv_stream.stream_csv.Goals as goal

pub returns-in_err-log-clause-objects : goal.returns-in_err-log-clause-objects
returns-in_err-log-clause-objects g c = numbered-since c.args.layout.now c.args.streaming.now (g.R.Read.remaining c.args.log)

pub returns-in_err-stream-clause-objects : goal.returns-in_err-stream-clause-objects
returns-in_err-stream-clause-objects g c = numbered-since c.args.layout.now c.args.streaming.now (g.R.Read.remaining c.args.log)

pub returns-clause-objects : goal.returns-clause-objects
returns-clause-objects g c = numbered-since c.args.layout.now c.args.streaming.now (g.R.Read.remaining c.args.log)

pub stream_rows-read-requires-clause-edges : goal.stream_rows-read-requires-clause-edges
stream_rows-read-requires-clause-edges g c none =
    let header = c.in_ok-log.ensures.header in
    edges-behind header.0 c.args.layout.now c.args.streaming.now.options c.in_ok-log.log.places c.in_ok-log.log.edges header.1 (c.in_ok-log.ensures.edges ∙ c.edges_of-edges.ensures) none

pub stream_rows-read-requires-clause-kinds : goal.stream_rows-read-requires-clause-kinds
stream_rows-read-requires-clause-kinds g c off =
    let header = c.in_ok-log.ensures.header in
    kinds-behind header.0 c.args.layout.now c.in_ok-log.log.places header.1 (sym c.is_some.ensures ∙ sym c.in_ok-stream.ensures.kinds ∙ off)

pub returns-clause-trace : goal.returns-clause-trace
returns-clause-trace g c =
    let rem = g.R.Read.remaining in
    let contents = g.W.Write.contents in
    let l = c.args.layout.now in
    let s = c.args.streaming.now in
    let known = rem c.args.log in
    let log = c.in_ok-log in
    let stream = c.in_ok-stream in
    let new = c.stream_rows-read.new in
    let before = contents c.args.out.now.writer in
    let after = contents c.end_stream.new.out.writer in
    let ends = c.end_stream.ensures in
    let whole = csv-written rem l s known log.log c.edges_of-edges.result log.ensures.found c.edges_of-edges.ensures log.ensures.edges log.ensures.quotes before (contents new.out.writer) after stream.stream new.stream stream.ensures.epoch (stream.ensures.kinds ∙ c.is_some.ensures)
    c.stream_rows-read.result c.end_stream.result (λ (ok : _). c.judge_stream-read.ensures.read (ends.read ok)) c.stream_rows-read.ensures.read ends.gained ends.counts in
    IfOk-weaker c.end_stream.result (IsCsvWritten l s known before after) _ (λ counts w. w.trace) whole

pub returns-clause-rising : goal.returns-clause-rising
returns-clause-rising g c =
    let rem = g.R.Read.remaining in
    let contents = g.W.Write.contents in
    let l = c.args.layout.now in
    let s = c.args.streaming.now in
    let known = rem c.args.log in
    let log = c.in_ok-log in
    let stream = c.in_ok-stream in
    let new = c.stream_rows-read.new in
    let before = contents c.args.out.now.writer in
    let after = contents c.end_stream.new.out.writer in
    let ends = c.end_stream.ensures in
    let whole = csv-written rem l s known log.log c.edges_of-edges.result log.ensures.found c.edges_of-edges.ensures log.ensures.edges log.ensures.quotes before (contents new.out.writer) after stream.stream new.stream stream.ensures.epoch (stream.ensures.kinds ∙ c.is_some.ensures)
    c.stream_rows-read.result c.end_stream.result (λ (ok : _). c.judge_stream-read.ensures.read (ends.read ok)) c.stream_rows-read.ensures.read ends.gained ends.counts in
    IfOk-weaker c.end_stream.result (IsCsvWritten l s known before after) _ (λ counts w. w.rising) whole

pub returns-clause-kept : goal.returns-clause-kept
returns-clause-kept g c =
    let rem = g.R.Read.remaining in
    let contents = g.W.Write.contents in
    let l = c.args.layout.now in
    let s = c.args.streaming.now in
    let known = rem c.args.log in
    let log = c.in_ok-log in
    let stream = c.in_ok-stream in
    let new = c.stream_rows-read.new in
    let before = contents c.args.out.now.writer in
    let after = contents c.end_stream.new.out.writer in
    let ends = c.end_stream.ensures in
    let whole = csv-written rem l s known log.log c.edges_of-edges.result log.ensures.found c.edges_of-edges.ensures log.ensures.edges log.ensures.quotes before (contents new.out.writer) after stream.stream new.stream stream.ensures.epoch (stream.ensures.kinds ∙ c.is_some.ensures)
    c.stream_rows-read.result c.end_stream.result (λ (ok : _). c.judge_stream-read.ensures.read (ends.read ok)) c.stream_rows-read.ensures.read ends.gained ends.counts in
    IfOk-weaker c.end_stream.result (IsCsvWritten l s known before after) _ (λ counts w. w.kept) whole

pub returns-clause-clamped : goal.returns-clause-clamped
returns-clause-clamped g c =
    let rem = g.R.Read.remaining in
    let contents = g.W.Write.contents in
    let l = c.args.layout.now in
    let s = c.args.streaming.now in
    let known = rem c.args.log in
    let log = c.in_ok-log in
    let stream = c.in_ok-stream in
    let new = c.stream_rows-read.new in
    let before = contents c.args.out.now.writer in
    let after = contents c.end_stream.new.out.writer in
    let ends = c.end_stream.ensures in
    let whole = csv-written rem l s known log.log c.edges_of-edges.result log.ensures.found c.edges_of-edges.ensures log.ensures.edges log.ensures.quotes before (contents new.out.writer) after stream.stream new.stream stream.ensures.epoch (stream.ensures.kinds ∙ c.is_some.ensures)
    c.stream_rows-read.result c.end_stream.result (λ (ok : _). c.judge_stream-read.ensures.read (ends.read ok)) c.stream_rows-read.ensures.read ends.gained ends.counts in
    IfOk-weaker c.end_stream.result (IsCsvWritten l s known before after) _ (λ counts w. w.clamped) whole

pub returns-clause-left_out : goal.returns-clause-left_out
returns-clause-left_out g c =
    let rem = g.R.Read.remaining in
    let contents = g.W.Write.contents in
    let l = c.args.layout.now in
    let s = c.args.streaming.now in
    let known = rem c.args.log in
    let log = c.in_ok-log in
    let stream = c.in_ok-stream in
    let new = c.stream_rows-read.new in
    let before = contents c.args.out.now.writer in
    let after = contents c.end_stream.new.out.writer in
    let ends = c.end_stream.ensures in
    let whole = csv-written rem l s known log.log c.edges_of-edges.result log.ensures.found c.edges_of-edges.ensures log.ensures.edges log.ensures.quotes before (contents new.out.writer) after stream.stream new.stream stream.ensures.epoch (stream.ensures.kinds ∙ c.is_some.ensures)
    c.stream_rows-read.result c.end_stream.result (λ (ok : _). c.judge_stream-read.ensures.read (ends.read ok)) c.stream_rows-read.ensures.read ends.gained ends.counts in
    IfOk-weaker c.end_stream.result (IsCsvWritten l s known before after) _ (λ counts w. w.left_out) whole

pub returns-clause-strict : goal.returns-clause-strict
returns-clause-strict g c =
    let rem = g.R.Read.remaining in
    let contents = g.W.Write.contents in
    let l = c.args.layout.now in
    let s = c.args.streaming.now in
    let known = rem c.args.log in
    let log = c.in_ok-log in
    let stream = c.in_ok-stream in
    let new = c.stream_rows-read.new in
    let before = contents c.args.out.now.writer in
    let after = contents c.end_stream.new.out.writer in
    let ends = c.end_stream.ensures in
    let whole = csv-written rem l s known log.log c.edges_of-edges.result log.ensures.found c.edges_of-edges.ensures log.ensures.edges log.ensures.quotes before (contents new.out.writer) after stream.stream new.stream stream.ensures.epoch (stream.ensures.kinds ∙ c.is_some.ensures)
    c.stream_rows-read.result c.end_stream.result (λ (ok : _). c.judge_stream-read.ensures.read (ends.read ok)) c.stream_rows-read.ensures.read ends.gained ends.counts in
    IfOk-weaker c.end_stream.result (IsCsvWritten l s known before after) _ (λ counts w. w.strict) whole

pub returns-clause-any : goal.returns-clause-any
returns-clause-any g c =
    let rem = g.R.Read.remaining in
    let contents = g.W.Write.contents in
    let l = c.args.layout.now in
    let s = c.args.streaming.now in
    let known = rem c.args.log in
    let log = c.in_ok-log in
    let stream = c.in_ok-stream in
    let new = c.stream_rows-read.new in
    let before = contents c.args.out.now.writer in
    let after = contents c.end_stream.new.out.writer in
    let ends = c.end_stream.ensures in
    let whole = csv-written rem l s known log.log c.edges_of-edges.result log.ensures.found c.edges_of-edges.ensures log.ensures.edges log.ensures.quotes before (contents new.out.writer) after stream.stream new.stream stream.ensures.epoch (stream.ensures.kinds ∙ c.is_some.ensures)
    c.stream_rows-read.result c.end_stream.result (λ (ok : _). c.judge_stream-read.ensures.read (ends.read ok)) c.stream_rows-read.ensures.read ends.gained ends.counts in
    IfOk-weaker c.end_stream.result (IsCsvWritten l s known before after) _ (λ counts w. w.any) whole

pub returns-clause-fault : goal.returns-clause-fault
returns-clause-fault g c =
    let contents = g.W.Write.contents in
    let log = c.in_ok-log in
    let stream = c.in_ok-stream in
    let new = c.stream_rows-read.new in
    csv-refused g.R.Read.remaining c.args.layout.now c.args.streaming.now (g.R.Read.remaining c.args.log) log.log c.edges_of-edges.result log.ensures.found c.edges_of-edges.ensures log.ensures.edges log.ensures.quotes
    (contents c.args.out.now.writer) (contents new.out.writer) (contents c.end_stream.new.out.writer) stream.stream new.stream stream.ensures.epoch (stream.ensures.kinds ∙ c.is_some.ensures)
    c.stream_rows-read.result c.judge_stream-read.result c.end_stream.result c.end_stream.ensures.fault c.judge_stream-read.ensures.fault c.stream_rows-read.ensures.fault c.stream_rows-read.ensures.read

pub returns-clause-lines : goal.returns-clause-lines
returns-clause-lines g c =
    let contents = g.W.Write.contents in
    let log = c.in_ok-log in
    let stream = c.in_ok-stream in
    let new = c.stream_rows-read.new in
    csv-lines g.R.Read.remaining c.args.layout.now c.args.streaming.now (g.R.Read.remaining c.args.log) log.log c.edges_of-edges.result log.ensures.found c.edges_of-edges.ensures log.ensures.edges log.ensures.quotes
    (contents c.args.out.now.writer) (contents new.out.writer) (contents c.end_stream.new.out.writer) stream.stream new.stream stream.ensures.epoch (stream.ensures.kinds ∙ c.is_some.ensures)
    c.stream_rows-read.result c.end_stream.result (λ (ok : _). c.judge_stream-read.ensures.read (c.end_stream.ensures.read ok)) c.stream_rows-read.ensures.lines

pub returns-clause-enough : goal.returns-clause-enough
returns-clause-enough g c =
    enough-counted c.judge_stream-read.result c.end_stream.result c.args.streaming.now.options c.stream_rows-read.new.stream c.end_stream.ensures.read c.judge_stream-read.ensures.enough c.end_stream.ensures.counts

pub returns-clause-cut_off : goal.returns-clause-cut_off
returns-clause-cut_off g c =
    let contents = g.W.Write.contents in
    let new = c.stream_rows-read.new in
    let ends = c.end_stream.ensures in
    let log = c.in_ok-log in
    let small = few-edges c.args.layout.now c.args.streaming.now.options log.log.edges (log.ensures.edges ∙ c.edges_of-edges.ensures) in
    let old = c.in_ok-stream.stream in
    let before = contents c.args.out.now.writer in
    let mid = contents new.out.writer in
    let o = c.args.streaming.now.options in
    let sent = judged-cut-off (λ e. IsErrorOfLosses o (counts_so_far new.stream) e) c.stream_rows-read.result c.judge_stream-read.result c.stream_rows-read.ensures.cut_off c.stream_rows-read.ensures.read
    (λ (h : HasReadCsv g.R.Read.remaining o log.log before mid old new.stream). whole-read log.log.edges o (records_rows log.log.places log.log.edges o old.epoch h.seen) (records_told log.log.places log.log.edges o old.epoch h.seen) h.gone old new.stream before mid h.gained h.stream h.kinds)
    c.judge_stream-read.ensures.fault in
    answer-cut-off log.log.edges new.stream.begun old.kinds before mid (contents c.end_stream.new.out.writer) c.judge_stream-read.result c.end_stream.result small ends.fault sent ends.cut_off

pub returns-in_err-stream-clause-cut_off : goal.returns-in_err-stream-clause-cut_off
returns-in_err-stream-clause-cut_off g c = nothing-before _ (g.W.Write.contents c.args.out.now.writer)

pub returns-in_err-log-clause-cut_off : goal.returns-in_err-log-clause-cut_off
returns-in_err-log-clause-cut_off g c = nothing-before _ (g.W.Write.contents c.args.out.now.writer)
