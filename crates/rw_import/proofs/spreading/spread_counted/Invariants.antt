use Rattle.std.proofs.Common.{◌≡◌, ◌++◌, drop, nat_eq, take}
use Rattle.rw_numbers.specs.Words.{Time}
use Rattle.rw_import.specs.Spread.{rows_at, spread, times_in}
use Rattle.rw_import.proofs.spreading.spread_counted.Given as goal

abbrev pub invariant-loop-row : goal.invariant-loop-row
invariant-loop-row l = record {
  seen : (t : Time) → times_in nat_eq l.seen t ≡ rows_at (take l.row-index l.initial.rows) t;
  rows : l.rows ≡ take l.row-index (spread l.ticks l.initial.rows) ++ drop l.row-index l.initial.rows;
}
