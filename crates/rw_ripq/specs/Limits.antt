-- When a queue is exhausted.
use Rattle.std.specs.Prelude.{◌^◌}
use Rattle.rw_vt.specs.Words.{Count}

-- a queue that has numbered so many blocks takes no further insertion or promotion
abbrev pub exhaustion : Count
exhaustion = 2 ^ 62
