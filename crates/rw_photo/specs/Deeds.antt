-- For the contracts inside the crate: what the code of an event does to a cache.
use Rattle.std.specs.Prelude.{◌≡◌, ◌++◌, List, Bool, true, if◌then◌else◌}
use Rattle.rw_vt.specs.declared.event.Event.{Event}
use Rattle.rw_numbers.specs.Words.{Object, Size}
use Rattle.rw_blocks.specs.declared.Mark.{Mark}
use Rattle.rw_blocks.specs.State.{QueueState}
use Rattle.rw_ripq.specs.declared.Policy.{Policy}
use Rattle.rw_ripq.specs.Trail.{Leads}
use Rattle.rw_ripq.specs.Weight.{IsShort}
use Rattle.rw_photo.specs.declared.body.Body.{Body}
use Rattle.rw_photo.specs.Counts.{no_counts, sum_of}
use Rattle.rw_photo.specs.Cache.{Cache}
use Rattle.rw_photo.specs.Storing.{QueueAndCounts, same_queue, store}
use Rattle.rw_photo.specs.Events.{Happening, cache_after}

-- the cache once its queue is what was made of it, and that is counted
abbrev pub once_made : Cache → QueueAndCounts → Cache
once_made s made =
    record s { queue = made.queue; counters = sum_of s.counters made.counts }

-- what storing an object makes of a queue, where it may be there already
abbrev pub stored_if : Policy → QueueState → Object → Size → Bool → QueueAndCounts
stored_if policy q o z there = if there then same_queue q no_counts else store policy q o z

-- what happens to object o has been done: the cache has changed, what is sent stands behind what was sent before, and
-- the marks lead the queue back, where they are kept
pub record HasHappened
    (h : Happening) (before : Cache) (o : Object) (after : Cache) (told now : List (Event Body))
    (kept : Bool) (ms : List Mark)
    : Type 0 where
  pub changed : after ≡ cache_after before o h
  pub sent : now ≡ told ++ h.sent
  pub leads : kept ≡ true → Leads ms before.queue after.queue
  pub short : kept ≡ true → IsShort ms before.queue after.queue
