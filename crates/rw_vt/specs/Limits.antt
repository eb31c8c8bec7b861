-- The end of virtual time.
use Rattle.std.specs.Prelude.{◌^◌}
use Rattle.rw_vt.specs.Words.{Time}

-- every event is earlier
abbrev pub end_of_time : Time
end_of_time = 2 ^ 40
