use Rattle.std.proofs.Common.{◌≡◌, None, map, fold}
use Rattle.std.specs.List.{range_with_len}
use Rattle.rw_import.specs.Log.{earlier}
use Rattle.rw_import.specs.Oracle.{piece_at, piece_said}
use Rattle.rw_import.proofs.oracle.least_time.Given as goal

abbrev pub invariant-loop-at : goal.invariant-loop-at
invariant-loop-at l = l.least ≡ fold earlier None (map (λ n. piece_said (piece_at l.bytes n)) (range_with_len 0 l.at))
