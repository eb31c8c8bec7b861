-- What a cache keeps.
use Rattle.std.specs.Prelude.{◌≡◌, List, [], Bool, Option, Some, None, ◌<◌, ◌^◌, nat_lt, nat_le, ◌||◌, All, is_some, if◌then◌else◌}
use Rattle.std.specs.List.Sorted.{IsStrictlySortedBy}
use Rattle.std.specs.Map.{lookup, remove_entry, keys_of, values_of}
use Rattle.std.specs.BTreeMap.{insert_entry, is_at}
use Rattle.std.specs.Ordering.{nat_cmp}
use Rattle.rw_vt.specs.Words.{Count, Process}
use Rattle.rw_numbers.specs.Words.{Object}
use Rattle.rw_blocks.specs.State.{QueueState, ShapeState, row_at, start_of}
use Rattle.rw_blocks.specs.Loose.{IsWellFormedQueue}
use Rattle.rw_ripq.specs.Limits.{exhaustion}
use Rattle.rw_ripq.specs.declared.Policy.TheVariants.{Off}
use Rattle.rw_photo.specs.declared.config.Config.{Config}
use Rattle.rw_photo.specs.declared.counters.Counters.{Counters}
use Rattle.rw_photo.specs.Counts.{AreCounts, no_counts, plus}

-- a cache: its queue on flash; for each object on its way how many requests wait for it, by rising object; how many
-- events it has sent; what it has counted
pub record Cache : Type 0 where
  pub queue : QueueState
  pub awaited : List (Object × Count)
  pub sends : Count
  pub counters : Counters

-- edges come first, then origins
abbrev pub is_edge : Config → Process → Bool
is_edge c p = nat_lt p c.edges

-- the shape of the queue at process p
abbrev pub shape_at : Config → Process → ShapeState
shape_at c p = if is_edge c p then c.edge_shape else c.origin_shape

-- a cache to which nothing has happened, with a queue of this shape
abbrev pub start_in : ShapeState → Cache
start_in shape = record { queue = start_of shape; awaited = []; sends = 0; counters = no_counts }

-- process p as it starts
abbrev pub start : Config → Process → Cache
start c p = start_in (shape_at c p)

-- whether an object is stored
abbrev pub is_stored : Cache → Object → Bool
is_stored s o = is_some (row_at s.queue o)

-- how many requests wait for an object, where it is awaited
abbrev pub waiting_in : List (Object × Count) → Object → Option Count
waiting_in awaited o = lookup (is_at (nat_cmp o)) awaited

abbrev pub waiting_for : Cache → Object → Option Count
waiting_for s o = waiting_in s.awaited o

-- how many requests wait for an object once one more does
abbrev pub waiting_more : Option Count → Count
waiting_more (Some n) = plus n 1
waiting_more None = 1

-- the awaited objects once n requests wait for object o, or once it is awaited no more
abbrev pub with_waiting : List (Object × Count) → Object → Option Count → List (Object × Count)
with_waiting awaited o (Some n) = insert_entry nat_cmp awaited o n
with_waiting awaited o None = remove_entry (is_at (nat_cmp o)) awaited

-- a cache that can take no further event: it has sent, or its queue has numbered, too much
abbrev pub is_exhausted : Cache → Bool
is_exhausted s = nat_le exhaustion s.sends || nat_le exhaustion s.queue.next

-- the queue is well formed, in the shape of its kind, and empty where nothing is stored; awaited objects ascend, and
-- all counts fit their types: nothing else is asked
pub record IsWellFormed (c : Config) (p : Process) (s : Cache) : Type 0 where
  pub queue : IsWellFormedQueue s.queue
  pub shape : s.queue.shape ≡ shape_at c p
  pub empty : c.policy ≡ Off → s.queue.rows ≡ []
  pub ascending : IsStrictlySortedBy nat_cmp (keys_of s.awaited)
  pub waiting : All (λ n. n < 2 ^ 64) (values_of s.awaited)
  pub sends : s.sends < 2 ^ 64
  pub counters : AreCounts s.counters
