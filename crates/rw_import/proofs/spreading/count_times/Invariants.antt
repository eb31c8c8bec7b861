use Rattle.std.proofs.Common.{◌≡◌, nat_eq, take}
use Rattle.rw_numbers.specs.Words.{Time}
use Rattle.rw_import.specs.Spread.{rows_at, times_in}
use Rattle.rw_import.proofs.spreading.count_times.Given as goal

abbrev pub invariant-loop-row : goal.invariant-loop-row
invariant-loop-row l = (t : Time) → times_in nat_eq l.counts t ≡ rows_at (take l.row-index l.rows) t
