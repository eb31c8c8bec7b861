use Rattle.std.proofs.Common.{◌≡◌}
use Rattle.rw_import.specs.OracleStream.{pieces_ahead}
use Rattle.rw_import.specs.Stream.{AreLinesCounted}
use Rattle.rw_import.proofs.OracleStreams.{IsReadingPieces}
use Rattle.rw_import.proofs.oracle_stream.stream_pieces.Given as goal

abbrev pub invariant-loop-row : goal.invariant-loop-row
invariant-loop-row g l = record {
  counts : AreLinesCounted l.row l.stream;
  failures : l.out.failures ≡ l.fn.out.failures;
  reading : IsReadingPieces l.options l.fn.stream.epoch (pieces_ahead (g.R.Read.remaining l.fn.reader)) (pieces_ahead (g.R.Read.remaining l.reader)) (g.W.Write.contents l.fn.out.writer) (g.W.Write.contents l.out.writer) l.row l.fn.stream.kinds l.stream;
}
