use Rattle.std.proofs.Common.{◌≡◌, take}
use Rattle.rw_trace.specs.Pieces.{RiseFrom, last_time}
use Rattle.rw_report.proofs.streaming.is_rising.Given as goal

abbrev pub invariant-loop-row : goal.invariant-loop-row
invariant-loop-row l = record {
  rising : RiseFrom 0 (take l.row-index l.rows);
  latest : l.latest ≡ last_time 0 (take l.row-index l.rows);
}
