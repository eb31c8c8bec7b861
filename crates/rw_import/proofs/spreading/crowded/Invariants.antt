use Rattle.std.proofs.Common.{◌≡◌, count_by, nat_le, take}
use Rattle.rw_import.specs.Spread.{rows_like}
use Rattle.rw_import.proofs.spreading.crowded.Given as goal

abbrev pub invariant-loop-row : goal.invariant-loop-row
invariant-loop-row l = l.crowded ≡ count_by (λ r. nat_le 2 (rows_like l.rows r)) (take l.row-index l.rows)
