-- What a hit, a store and a purge do to a queue, and what they count.
use Rattle.std.specs.Prelude.{Bool, not, is_some, nat_eq, nat_lt, if◌then◌else◌}
use Rattle.rw_numbers.specs.Words.{Object, Size}
use Rattle.rw_blocks.specs.State.{QueueState, row_at, row_or}
use Rattle.rw_ripq.specs.declared.Policy.{Policy}
use Rattle.rw_ripq.specs.declared.Policy.TheVariants.{Off}
use Rattle.rw_ripq.specs.Work.{Work}
use Rattle.rw_ripq.specs.Insert.{insert}
use Rattle.rw_ripq.specs.Promote.{promote}
use Rattle.rw_ripq.specs.Purge.{purge_by}
use Rattle.rw_photo.specs.declared.counters.Counters.{Counters}
use Rattle.rw_photo.specs.Counts.{no_counts, one_hit, one_bypassed, one_inserted, one_purge}

-- what becomes of a queue, and what that counts
pub record QueueAndCounts : Type 0 where
  pub queue : QueueState
  pub counts : Counters

-- the queue stays as it is
abbrev pub same_queue : QueueState → Counters → QueueAndCounts
same_queue q counts = record { queue = q; counts = counts }

-- whether the object's place is another one than before
abbrev pub is_moved : QueueState → QueueState → Object → Bool
is_moved before after o = not (nat_eq (row_or after o).place (row_or before o).place)

-- a hit of an object that is stored promotes it; it counts the bytes that are asked for, not those that are stored
abbrev pub hit : Policy → QueueState → Object → Size → QueueAndCounts
hit policy q o z =
    let after = promote policy q o in
    record { queue = after; counts = one_hit (is_moved q after o) z }

-- what an insertion of an object of so many bytes makes of a queue
abbrev pub insertion : Work → Size → QueueAndCounts
insertion w z = record { queue = w.queue; counts = one_inserted w.tally z }

-- an object that is not stored is inserted as one of level 1, unless the policy is to store nothing; one that is too
-- large for a block passes by
abbrev pub store : Policy → QueueState → Object → Size → QueueAndCounts
store Off q o z = same_queue q no_counts
store policy q o z =
    if nat_lt q.shape.block z
    then same_queue q one_bypassed
    else insertion (insert policy q o z 1) z

-- an object leaves, where it is stored; its home is taken out too where that is asked for and it has no object then
abbrev pub purge_if_stored : Bool → QueueState → Object → QueueAndCounts
purge_if_stored reclaim q o =
    let stored = is_some (row_at q o) in
    record { queue = if stored then purge_by reclaim q o else q; counts = one_purge stored }
