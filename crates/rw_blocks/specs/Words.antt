-- How much a queue holds, and what the tags of its sections are.
use Rattle.std.specs.Prelude.{ℕ, ◌^◌}
use Rattle.rw_numbers.specs.Words.{Size}

-- all rows of a queue together hold no more bytes than these
abbrev pub most_bytes : Size
most_bytes = 2 ^ 48

-- a number by which the index tells a section: no other one has it
abbrev pub Tag : Type 0
Tag = ℕ
