-- The limits of a configuration, each by its number.
use Rattle.rw_vt.specs.Words.{Count, Time}

-- the most edges
abbrev pub most_edges : Count
most_edges = 256

-- the most origins
abbrev pub most_origins : Count
most_origins = 64

-- the longest delay, in ticks
abbrev pub longest_delay : Time
longest_delay = 1048576
