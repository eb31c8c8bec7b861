-- What the numbers of an operation are, beside those of a queue.
use Rattle.std.specs.Prelude.{ℕ, ◌≤◌}
use Rattle.rw_vt.specs.Words.{Count}

-- which segment of all bytes a row lies in, counted from 1 at the tail
abbrev pub Level : Type 0
Level = ℕ

-- how many segments there may be
abbrev pub IsSegmentCount : Count → Type 0
IsSegmentCount n = (2 ≤ n) × (n ≤ 8)
