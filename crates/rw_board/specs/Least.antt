-- The least of some times.
use Rattle.std.specs.Prelude.{min, List, [], ◌∷◌}
use Rattle.rw_vt.specs.Words.{Time}
use Rattle.rw_vt.specs.Limits.{end_of_time}

-- the least of the end of time and the times
abbrev pub least : List Time → Time
least [] = end_of_time
least (time ∷ times) = min time (least times)
