-- The processes of a worker, what is next at them, and a change of one of them: only contracts of
-- private functions cite what stands here.
use Rattle.std.specs.Prelude.{◌≡◌, ◌<◌, List, length, slice_get, slice_index_or, slice_set, Option, Some, None}
use Rattle.std.specs.declared.cmp.Ordering.{Ordering}
use Rattle.rw_vt.specs.Words.{Position}
use Rattle.rw_vt.specs.declared.event.Event.{Event}
use Rattle.rw_bag.specs.Bags.{IsNextOf}
use Rattle.rw_lp.specs.Calls.{LogicalProcess, IsSameProcess}

-- the processes by their places
pub record ProcessList (M S B : Type 0) : Type 0 where
  pub items : List (LogicalProcess M S B)

-- at each of its places the list of events has what is next at the process there
pub record TellsNext {M S B : Type 0} (cmp : Event B → Event B → Ordering)
    (xs : List (LogicalProcess M S B)) (next : List (Option (Event B))) : Type 0 where
  pub at : (place : Position) (l : LogicalProcess M S B)
      → place < length next → slice_get xs place ≡ Some l
      → IsNextOf cmp l.process.pending (slice_index_or next place None)

-- From xs to zs the process at this place alone changed, which stays that of its model and its
-- number: P holds of what it was and what it is
pub record ChangesOne {M S B : Type 0} (xs zs : List (LogicalProcess M S B)) (place : Position)
    (P : LogicalProcess M S B → LogicalProcess M S B → Type 0) : Type 0 where
  pub was : LogicalProcess M S B
  pub is : LogicalProcess M S B
  pub there : slice_get xs place ≡ Some was
  pub set : zs ≡ slice_set xs place is
  pub same : IsSameProcess was is
  pub by : P was is
