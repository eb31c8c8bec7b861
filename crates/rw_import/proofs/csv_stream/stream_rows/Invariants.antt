use Rattle.std.proofs.Common.{◌≡◌}
use Rattle.rw_trace.specs.Pieces.{MayRead, records_ahead}
use Rattle.rw_import.specs.Sheet.{texts_in}
use Rattle.rw_import.specs.Stream.{AreLinesCounted}
use Rattle.rw_import.proofs.CsvStreams.{IsReading}
use Rattle.rw_import.proofs.OneLine.{KeepsLines}
use Rattle.rw_import.proofs.csv_stream.stream_rows.Given as goal

abbrev pub invariant-loop-row : goal.invariant-loop-row
invariant-loop-row g l = record {
  may : MayRead l.log.reader;
  places : l.log.places ≡ l.fn.log.places;
  edges : l.log.edges ≡ l.fn.log.edges;
  quotes : l.log.quotes ≡ l.fn.log.quotes;
  lines : KeepsLines l.fn.log.quotes (records_ahead g.R.Read.remaining l.fn.log.reader) (records_ahead g.R.Read.remaining l.log.reader);
  counts : AreLinesCounted l.row l.stream;
  failures : l.out.failures ≡ l.fn.out.failures;
  reading : IsReading l.fn.log.places l.fn.log.edges l.options l.fn.stream.epoch (records_ahead g.R.Read.remaining l.fn.log.reader) (records_ahead g.R.Read.remaining l.log.reader) (g.W.Write.contents l.fn.out.writer) (g.W.Write.contents l.out.writer) l.row (texts_in l.log.texts) l.fn.stream.kinds l.stream;
}
