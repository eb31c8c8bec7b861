-- The ranges of a configuration's numbers.
use Rattle.std.specs.Prelude.{◌≤◌}
use Rattle.rw_vt.specs.Words.{Count, Time}
use Rattle.rw_photo.specs.Limits.{longest_delay, most_edges, most_origins}

-- a delay is at least one tick
pub record IsDelay (n : Time) : Type 0 where
  pub some : 1 ≤ n
  pub few : n ≤ longest_delay

-- at least one edge, at least one origin, and three delays
pub record IsConfig (edges origins : Count) (up down back : Time) : Type 0 where
  pub some_edge : 1 ≤ edges
  pub few_edges : edges ≤ most_edges
  pub some_origin : 1 ≤ origins
  pub few_origins : origins ≤ most_origins
  pub up_delay : IsDelay up
  pub down_delay : IsDelay down
  pub back_delay : IsDelay back
