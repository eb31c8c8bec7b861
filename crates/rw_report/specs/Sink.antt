-- What goes out to a writer, and how often it fails.
use Rattle.std.specs.Prelude.{ℕ, ◌+◌, ◌%◌, ◌^◌, take, Option}
use Rattle.std.specs.Io.KnownBytes.{Appends}
use Rattle.rw_trace.specs.Words.{Text}

-- a writer, and how often it failed
pub record OutState (W : Type 0) : Type 0 where
  pub writer : W
  pub failures : ℕ

-- one failure more, modulo 2 ^ 64
abbrev pub one_more : ℕ → ℕ
one_more n = (n + 1) % 2 ^ 64

-- what the writer holds, where it tells, has grown by a beginning of the text
abbrev pub AppendsBeginning : Option Text → Option Text → Text → Type 0
AppendsBeginning old new text = (n : ℕ) × Appends old new (take n text)
