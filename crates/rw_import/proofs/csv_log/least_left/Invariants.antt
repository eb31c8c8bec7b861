use Rattle.std.proofs.Common.{◌≡◌, None, fold, map}
use Rattle.rw_trace.specs.Unread.{Steady, unread}
use Rattle.rw_import.specs.Csv.{have_their_lines, record_said}
use Rattle.rw_import.specs.Log.{earlier}
use Rattle.rw_import.proofs.csv_log.least_left.Given as goal

abbrev pub invariant-loop-row : goal.invariant-loop-row
invariant-loop-row g l = record {
  steady : Steady l.reader;
  lines : have_their_lines l.quotes (unread l.fn.reader) ≡ have_their_lines l.quotes (unread l.reader);
  meaning : fold earlier None (map (record_said l.places l.edges) (unread l.fn.reader)) ≡ fold earlier l.least (map (record_said l.places l.edges) (unread l.reader));
}
