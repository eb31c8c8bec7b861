-- The limits of a trace, each by its number.
use Rattle.std.specs.Prelude.{◌-◌, ◌^◌}
use Rattle.rw_numbers.specs.Words.{Count, Size, Time}

-- the most rows of a trace
abbrev pub most_rows : Count
most_rows = 2 ^ 24

-- the most rows of a trace that is read as it is run
abbrev pub most_streamed_rows : Count
most_streamed_rows = 2 ^ 40

-- the latest time of a row, in ticks
abbrev pub latest_time : Time
latest_time = 2 ^ 39

-- the greatest size of a row, in bytes
abbrev pub greatest_size : Size
greatest_size = 2 ^ 32 - 1

-- the most digits of a number
abbrev pub most_digits : Count
most_digits = 20
