use Rattle.std.proofs.Common.{◌≡◌, take}
use Rattle.rw_trace.specs.declared.Row.{Row}
use Rattle.rw_import.specs.Spread.{is_same, request_of, rows_like, times_in}
use Rattle.rw_import.proofs.spreading.count_requests.Given as goal

abbrev pub invariant-loop-row : goal.invariant-loop-row
invariant-loop-row l = (r : Row) → times_in is_same l.counts (request_of r) ≡ rows_like (take l.row-index l.rows) r
