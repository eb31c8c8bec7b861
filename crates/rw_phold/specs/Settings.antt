-- The settings that there are.
use Rattle.std.specs.Prelude.{◌≤◌}
use Rattle.rw_vt.specs.Words.{Count, Time}
use Rattle.rw_vt.specs.Limits.{end_of_time}

-- the most processes
abbrev pub most_processes : Count
most_processes = 65536

-- the most ticks of the lookahead, and of the spread
abbrev pub most_ticks : Time
most_ticks = 1048576

-- each number of a setting is in its range
abbrev pub IsSetting : Count → Time → Time → Time → Type 0
IsSetting processes lookahead spread until =
    (1 ≤ processes) × (processes ≤ most_processes)
    × (1 ≤ lookahead) × (lookahead ≤ most_ticks)
    × (1 ≤ spread) × (spread ≤ most_ticks)
    × (until ≤ end_of_time)
