-- What takes an event back.
use Rattle.std.specs.Prelude.{◌≡◌}
use Rattle.rw_numbers.specs.Words.{Object}
use Rattle.rw_vt.specs.declared.event.Event.{Event}
use Rattle.rw_ripq.specs.Trail.{Leads, rewind_of}
use Rattle.rw_ripq.specs.Weight.{IsShort}
use Rattle.rw_photo.specs.declared.body.Body.{Body}
use Rattle.rw_photo.specs.declared.undo.Undo.{Undo}
use Rattle.rw_photo.specs.Counts.{minus, difference_of}
use Rattle.rw_photo.specs.Cache.{Cache, with_waiting}
use Rattle.rw_photo.specs.Events.{object_of}

-- the cache before an event of object o, which the undo record u makes of the cache s after it
abbrev pub cache_before : Object → Undo → Cache → Cache
cache_before o u s =
    record {
      queue = rewind_of u.change.trail s.queue;
      awaited = with_waiting s.awaited o u.waiting;
      sends = minus s.sends u.sent;
      counters = difference_of s.counters u.change.counts;
    }

-- the undo record takes the cache after the event back to the one before; its trail leads the queue back, and is short
pub record TakesBack (before : Cache) (e : Event Body) (u : Undo) (after : Cache) : Type 0 where
  pub back : cache_before (object_of e.body) u after ≡ before
  pub leads : Leads u.change.trail before.queue after.queue
  pub short : IsShort u.change.trail before.queue after.queue
