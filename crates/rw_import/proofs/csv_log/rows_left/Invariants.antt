use Rattle.rw_trace.specs.Unread.{Steady, unread}
use Rattle.rw_import.specs.Sheet.{IsCounted, texts_in}
use Rattle.rw_import.proofs.Collecting.{IsSoFar}
use Rattle.rw_import.proofs.csv_log.rows_left.Given as goal

abbrev pub invariant-loop-row : goal.invariant-loop-row
invariant-loop-row g l = record {
  steady : Steady l.reader;
  counts : IsCounted l.row l.sheet;
  so_far : IsSoFar l.terms.places l.terms.edges l.terms.options l.terms.least (unread l.fn.reader) (unread l.reader) l.row (texts_in l.texts) l.sheet;
}
