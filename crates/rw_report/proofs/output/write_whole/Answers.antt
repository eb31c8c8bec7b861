use Rattle.std.proofs.lemmas.List.{take_rest}
use Rattle.rw_report.proofs.Written.{taken-within, written-more}
use Rattle.rw_report.proofs.output.write_whole.Goals as goal

pub loop-written-preserved : goal.loop-written-preserved
loop-written-preserved g c =
    let contents = g.W.Write.contents in
    let text = c.args.text.now in
    let written = c.loop-written.written in
    let bound = rw take_rest at c.write-wrote.ensures.bound in
    let bytes = rw take_rest at c.write-wrote.ensures.bytes in
    record {
      within = taken-within c.write-wrote.result text written c.unwrap_or-taken.result c.unwrap_or-taken.ensures c.loop-written-test.true bound;
      out = written-more c.write-wrote.result (contents c.args.writer.now) (contents c.loop-written.writer) (contents c.write-wrote.new.self) text written c.unwrap_or-taken.result c.unwrap_or-taken.ensures c.loop-written.invariant.out bytes;
    }
