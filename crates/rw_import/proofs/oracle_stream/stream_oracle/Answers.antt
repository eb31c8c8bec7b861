-- Through the buffer, what is read and written is what the log means.
use Rattle.std.proofs.lemmas.Result.{IfOk-weaker}
use Rattle.rw_import.specs.OracleStream.{HasReadOracle, pieces_rows, pieces_told}
use Rattle.rw_import.specs.Log.{IsErrorOfLosses}
use Rattle.rw_import.specs.Stream.{counts_so_far}
use Rattle.rw_import.proofs.OracleWritten.{IsOracleWritten, buffered-known, objects-since, oracle-refused, oracle-written}
use Rattle.rw_import.proofs.Written.{answer-cut-off, enough-counted, judged-cut-off, whole-read, gains-nothing, nothing-before}
use Rattle.rw_import.proofs.oracle_stream.stream_oracle.Goals as goal

pub returns-in_err-stream-clause-objects : goal.returns-in_err-stream-clause-objects
returns-in_err-stream-clause-objects g c = objects-since c.args.streaming.now (g.R.Read.remaining c.args.log)

pub returns-clause-objects : goal.returns-clause-objects
returns-clause-objects g c = objects-since c.args.streaming.now (g.R.Read.remaining c.args.log)

pub returns-clause-trace : goal.returns-clause-trace
returns-clause-trace g c =
    let contents = g.W.Write.contents in
    let s = c.args.streaming.now in
    let known = g.R.Read.remaining c.args.log in
    let made = c.in-Ok.ensures in
    let inner = buffered-known g.R.Read.remaining c.in-Ok.reader c.args.log made.capacity made.empty made.inner in
    let stream = c.in_ok-stream in
    let new = c.stream_pieces-read.new in
    let before = contents c.args.out.now.writer in
    let after = contents c.end_stream.new.out.writer in
    let ends = c.end_stream.ensures in
    let whole = oracle-written s known _ inner before (contents new.out.writer) after stream.stream new.stream stream.ensures.epoch stream.ensures.kinds c.stream_pieces-read.result c.end_stream.result
    (λ (ok : _). c.judge_stream-read.ensures.read (ends.read ok)) c.stream_pieces-read.ensures.read ends.gained ends.counts in
    IfOk-weaker c.end_stream.result (IsOracleWritten s known before after) _ (λ counts w. w.trace) whole

pub returns-clause-rising : goal.returns-clause-rising
returns-clause-rising g c =
    let contents = g.W.Write.contents in
    let s = c.args.streaming.now in
    let known = g.R.Read.remaining c.args.log in
    let made = c.in-Ok.ensures in
    let inner = buffered-known g.R.Read.remaining c.in-Ok.reader c.args.log made.capacity made.empty made.inner in
    let stream = c.in_ok-stream in
    let new = c.stream_pieces-read.new in
    let before = contents c.args.out.now.writer in
    let after = contents c.end_stream.new.out.writer in
    let ends = c.end_stream.ensures in
    let whole = oracle-written s known _ inner before (contents new.out.writer) after stream.stream new.stream stream.ensures.epoch stream.ensures.kinds c.stream_pieces-read.result c.end_stream.result
    (λ (ok : _). c.judge_stream-read.ensures.read (ends.read ok)) c.stream_pieces-read.ensures.read ends.gained ends.counts in
    IfOk-weaker c.end_stream.result (IsOracleWritten s known before after) _ (λ counts w. w.rising) whole

pub returns-clause-kept : goal.returns-clause-kept
returns-clause-kept g c =
    let contents = g.W.Write.contents in
    let s = c.args.streaming.now in
    let known = g.R.Read.remaining c.args.log in
    let made = c.in-Ok.ensures in
    let inner = buffered-known g.R.Read.remaining c.in-Ok.reader c.args.log made.capacity made.empty made.inner in
    let stream = c.in_ok-stream in
    let new = c.stream_pieces-read.new in
    let before = contents c.args.out.now.writer in
    let after = contents c.end_stream.new.out.writer in
    let ends = c.end_stream.ensures in
    let whole = oracle-written s known _ inner before (contents new.out.writer) after stream.stream new.stream stream.ensures.epoch stream.ensures.kinds c.stream_pieces-read.result c.end_stream.result
    (λ (ok : _). c.judge_stream-read.ensures.read (ends.read ok)) c.stream_pieces-read.ensures.read ends.gained ends.counts in
    IfOk-weaker c.end_stream.result (IsOracleWritten s known before after) _ (λ counts w. w.kept) whole

pub returns-clause-clamped : goal.returns-clause-clamped
returns-clause-clamped g c =
    let contents = g.W.Write.contents in
    let s = c.args.streaming.now in
    let known = g.R.Read.remaining c.args.log in
    let made = c.in-Ok.ensures in
    let inner = buffered-known g.R.Read.remaining c.in-Ok.reader c.args.log made.capacity made.empty made.inner in
    let stream = c.in_ok-stream in
    let new = c.stream_pieces-read.new in
    let before = contents c.args.out.now.writer in
    let after = contents c.end_stream.new.out.writer in
    let ends = c.end_stream.ensures in
    let whole = oracle-written s known _ inner before (contents new.out.writer) after stream.stream new.stream stream.ensures.epoch stream.ensures.kinds c.stream_pieces-read.result c.end_stream.result
    (λ (ok : _). c.judge_stream-read.ensures.read (ends.read ok)) c.stream_pieces-read.ensures.read ends.gained ends.counts in
    IfOk-weaker c.end_stream.result (IsOracleWritten s known before after) _ (λ counts w. w.clamped) whole

pub returns-clause-left_out : goal.returns-clause-left_out
returns-clause-left_out g c =
    let contents = g.W.Write.contents in
    let s = c.args.streaming.now in
    let known = g.R.Read.remaining c.args.log in
    let made = c.in-Ok.ensures in
    let inner = buffered-known g.R.Read.remaining c.in-Ok.reader c.args.log made.capacity made.empty made.inner in
    let stream = c.in_ok-stream in
    let new = c.stream_pieces-read.new in
    let before = contents c.args.out.now.writer in
    let after = contents c.end_stream.new.out.writer in
    let ends = c.end_stream.ensures in
    let whole = oracle-written s known _ inner before (contents new.out.writer) after stream.stream new.stream stream.ensures.epoch stream.ensures.kinds c.stream_pieces-read.result c.end_stream.result
    (λ (ok : _). c.judge_stream-read.ensures.read (ends.read ok)) c.stream_pieces-read.ensures.read ends.gained ends.counts in
    IfOk-weaker c.end_stream.result (IsOracleWritten s known before after) _ (λ counts w. w.left_out) whole

pub returns-clause-strict : goal.returns-clause-strict
returns-clause-strict g c =
    let contents = g.W.Write.contents in
    let s = c.args.streaming.now in
    let known = g.R.Read.remaining c.args.log in
    let made = c.in-Ok.ensures in
    let inner = buffered-known g.R.Read.remaining c.in-Ok.reader c.args.log made.capacity made.empty made.inner in
    let stream = c.in_ok-stream in
    let new = c.stream_pieces-read.new in
    let before = contents c.args.out.now.writer in
    let after = contents c.end_stream.new.out.writer in
    let ends = c.end_stream.ensures in
    let whole = oracle-written s known _ inner before (contents new.out.writer) after stream.stream new.stream stream.ensures.epoch stream.ensures.kinds c.stream_pieces-read.result c.end_stream.result
    (λ (ok : _). c.judge_stream-read.ensures.read (ends.read ok)) c.stream_pieces-read.ensures.read ends.gained ends.counts in
    IfOk-weaker c.end_stream.result (IsOracleWritten s known before after) _ (λ counts w. w.strict) whole

pub returns-clause-any : goal.returns-clause-any
returns-clause-any g c =
    let contents = g.W.Write.contents in
    let s = c.args.streaming.now in
    let known = g.R.Read.remaining c.args.log in
    let made = c.in-Ok.ensures in
    let inner = buffered-known g.R.Read.remaining c.in-Ok.reader c.args.log made.capacity made.empty made.inner in
    let stream = c.in_ok-stream in
    let new = c.stream_pieces-read.new in
    let before = contents c.args.out.now.writer in
    let after = contents c.end_stream.new.out.writer in
    let ends = c.end_stream.ensures in
    let whole = oracle-written s known _ inner before (contents new.out.writer) after stream.stream new.stream stream.ensures.epoch stream.ensures.kinds c.stream_pieces-read.result c.end_stream.result
    (λ (ok : _). c.judge_stream-read.ensures.read (ends.read ok)) c.stream_pieces-read.ensures.read ends.gained ends.counts in
    IfOk-weaker c.end_stream.result (IsOracleWritten s known before after) _ (λ counts w. w.any) whole

pub returns-clause-fault : goal.returns-clause-fault
returns-clause-fault g c =
    let made = c.in-Ok.ensures in
    let inner = buffered-known g.R.Read.remaining c.in-Ok.reader c.args.log made.capacity made.empty made.inner in
    let contents = g.W.Write.contents in
    let stream = c.in_ok-stream in
    let new = c.stream_pieces-read.new in
    oracle-refused c.args.streaming.now (g.R.Read.remaining c.args.log) _ inner (contents c.args.out.now.writer) (contents new.out.writer) (contents c.end_stream.new.out.writer) stream.stream new.stream stream.ensures.epoch stream.ensures.kinds
    c.stream_pieces-read.result c.judge_stream-read.result c.end_stream.result c.end_stream.ensures.fault c.judge_stream-read.ensures.fault c.stream_pieces-read.ensures.fault c.stream_pieces-read.ensures.read

pub returns-clause-enough : goal.returns-clause-enough
returns-clause-enough g c =
    enough-counted c.judge_stream-read.result c.end_stream.result c.args.streaming.now.options c.stream_pieces-read.new.stream c.end_stream.ensures.read c.judge_stream-read.ensures.enough c.end_stream.ensures.counts

pub returns-in_default-clause-objects : goal.returns-in_default-clause-objects
returns-in_default-clause-objects g c = objects-since c.args.streaming.now (g.R.Read.remaining c.args.log)

pub returns-clause-cut_off : goal.returns-clause-cut_off
returns-clause-cut_off g c =
    let contents = g.W.Write.contents in
    let new = c.stream_pieces-read.new in
    let ends = c.end_stream.ensures in
    let old = c.in_ok-stream.stream in
    let before = contents c.args.out.now.writer in
    let mid = contents new.out.writer in
    let o = c.args.streaming.now.options in
    let sent = judged-cut-off (λ e. IsErrorOfLosses o (counts_so_far new.stream) e) c.stream_pieces-read.result c.judge_stream-read.result c.stream_pieces-read.ensures.cut_off c.stream_pieces-read.ensures.read
    (λ (h : HasReadOracle o _ before mid old new.stream). whole-read o.edges o (pieces_rows o old.epoch h.seen) (pieces_told o old.epoch h.seen) h.gone old new.stream before mid h.gained h.stream h.kinds) c.judge_stream-read.ensures.fault in
    answer-cut-off o.edges new.stream.begun old.kinds before mid (contents c.end_stream.new.out.writer) c.judge_stream-read.result c.end_stream.result o.few_edges ends.fault sent ends.cut_off

pub returns-in_err-stream-clause-cut_off : goal.returns-in_err-stream-clause-cut_off
returns-in_err-stream-clause-cut_off g c = nothing-before _ (g.W.Write.contents c.args.out.now.writer)

pub returns-in_default-clause-cut_off : goal.returns-in_default-clause-cut_off
returns-in_default-clause-cut_off g c = λ _. gains-nothing (g.W.Write.contents c.args.out.now.writer)
