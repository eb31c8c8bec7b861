use Rattle.std.proofs.Common.{◌≡◌}
use Rattle.rw_import.specs.OracleRows.{LeavesAllOut}
use Rattle.rw_import.specs.Sheet.{AreCountsOf}
use Rattle.rw_import.proofs.oracle_rows.next_kept.Given as goal

abbrev pub invariant-loop-at : goal.invariant-loop-at
invariant-loop-at g l = record {
  number : l.number ≡ l.at;
  counts : AreCountsOf l.at l.left_out;
  leaves : LeavesAllOut l.options l.fn.epoch l.epoch l.fn.number l.at (g.R.Read.remaining l.fn.reader) (g.R.Read.remaining l.reader);
}
