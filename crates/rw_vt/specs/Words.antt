-- What numbers are.
use Rattle.std.specs.Prelude.{ℕ}
pub use Rattle.rw_numbers.specs.Words.{Count, Position, Time}

-- a process, counted from 0
abbrev pub Process : Type 0
Process = ℕ

-- a worker of a round, counted from 0
abbrev pub Worker : Type 0
Worker = ℕ
