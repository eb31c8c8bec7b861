-- What numbers are, in more than one crate.
use Rattle.std.specs.Prelude.{ℕ}

-- how many
abbrev pub Count : Type 0
Count = ℕ

-- a place in a list, counted from 0
abbrev pub Position : Type 0
Position = ℕ

-- a time, in ticks: of a trace, and the virtual time of a run
abbrev pub Time : Type 0
Time = ℕ

-- an object, by its number
abbrev pub Object : Type 0
Object = ℕ

-- bytes: of an object, or of all in a block or a section
abbrev pub Size : Type 0
Size = ℕ

-- a block, by its serial
abbrev pub Serial : Type 0
Serial = ℕ

-- a section, counted from 0 at the head
abbrev pub Section : Type 0
Section = ℕ
