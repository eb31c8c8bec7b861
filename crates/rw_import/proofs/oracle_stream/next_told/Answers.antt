-- The bytes that are filled are the next record.
use Rattle.std.proofs.Common.{arith, take}
use Rattle.rw_import.proofs.Pieces.{filled-gives}
use Rattle.rw_import.proofs.oracle_stream.next_told.Goals as goal

pub returns-clause-some : goal.returns-clause-some
returns-clause-some g c =
    let n = c.in_ok-filled.filled in
    let piece = c.fill.new.piece in
    let becomes = c.judge_piece.ensures in
    record {
      piece = take n piece;
      gives = filled-gives (g.R.Read.remaining c.args.reader.now) (g.R.Read.remaining c.fill.new.reader) n piece c.fill.auto.piece c.in_ok-filled.ensures.filled (omega (arith, c.if-filled-eq0.false));
      epoch = becomes.epoch;
      is = becomes.judged;
      keepable = becomes.keepable;
      get = becomes.get;
    }
