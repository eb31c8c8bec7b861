-- The limits of how a log is read, each by its number.
use Rattle.std.specs.Prelude.{◌≤◌}
use Rattle.rw_numbers.specs.Words.{Count, Time}

-- the most ticks of a unit of the log's time
abbrev pub most_unit_ticks : Time
most_unit_ticks = 1000000000

-- the most edges of the trace of a log
abbrev pub most_log_edges : Count
most_log_edges = 256

-- options are in their ranges
abbrev pub AreOptions : Time → Count → Type 0
AreOptions ticks edges =
    (1 ≤ ticks) × (ticks ≤ most_unit_ticks) × (1 ≤ edges) × (edges ≤ most_log_edges)
