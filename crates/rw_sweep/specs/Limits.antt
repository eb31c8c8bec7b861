-- The limits of a sweep, each by its number.
use Rattle.rw_vt.specs.Words.{Count}

-- the most configurations of a grid
abbrev pub most_configurations : Count
most_configurations = 65536

-- the most workers
abbrev pub most_workers : Count
most_workers = 64
