-- The limit of a run of values, by its number.
use Rattle.rw_vt.specs.Words.{Count}

-- the most values of a run
abbrev pub longest_run : Count
longest_run = 64
