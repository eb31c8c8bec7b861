-- All that a run executes, in order, and how far it is committed.
use Rattle.std.specs.Prelude.{◌≡◌, List, ◌++◌}
use Rattle.rw_vt.specs.Words.{Time}
use Rattle.rw_vt.specs.Limits.{end_of_time}
use Rattle.rw_vt.specs.declared.event.Event.{Event}
use Rattle.rw_vt.specs.Order.{in_order}
use Rattle.rw_vt.specs.System.{System, flatten, journal_below, map_from}
use Rattle.rw_vt.specs.Rest.{EndsAs}
use Rattle.rw_vt.specs.Moments.{HasReached}

-- all events of times below t that a run executes, in order
abbrev pub executed_below : {S B : Type 0} → System S B → Time → List (Event B)
executed_below y t =
    in_order y.rules.order (flatten (map_from 0 (λ q _. journal_below y t q) y.starts))

-- the run of y has reached t, and these are all events of times below t that it executes, in order
pub record HasCommitted {S B : Type 0} (y : System S B) (t : Time) (states : List S)
    (waiting committed : List (Event B)) : Type 0 where
  pub reached : HasReached y t states waiting
  pub committed_are : committed ≡ executed_below y t

-- these events are the first that the run of y executes, in order; from these states, with these events, it executes
-- the others, and ends as from its start
pub record RunsOnAfter {S B : Type 0} (y : System S B) (committed : List (Event B))
    (states : List S) (waiting : List (Event B)) : Type 0 where
  pub others : committed
      ++ executed_below (record y { starts = states; initial = waiting }) end_of_time
      ≡ executed_below y end_of_time
  pub ends : EndsAs (record y { starts = states; initial = waiting }) y
