-- The events of caches: which are valid, and what each does.
use Rattle.std.specs.Prelude.{min, ◌+◌, ◌%◌, ◌^◌, Bool, if◌then◌else◌, nat_lt, nat_le, ◌&&◌, not, nat_eq, List, [], ◌∷◌, filter, length, Option, Some, None, unwrap_or}
use Rattle.std.specs.List.{range_with_len}
use Rattle.rw_vt.specs.Words.{Count, Process, Time}
use Rattle.rw_vt.specs.System.{map_from}
use Rattle.rw_numbers.specs.Words.{Object, Size}
use Rattle.rw_vt.specs.declared.event.Event.{Event}
use Rattle.rw_blocks.specs.State.{QueueState}
use Rattle.rw_trace.specs.Limits.{greatest_size, latest_time}
use Rattle.rw_trace.specs.declared.Kind.{Kind}
use Rattle.rw_trace.specs.declared.Kind.TheVariants as kind
use Rattle.rw_trace.specs.declared.Row.{Row}
use Rattle.rw_photo.specs.declared.body.Body.{Body}
use Rattle.rw_photo.specs.declared.body.Body.TheVariants.{Request, Miss, Fill, Purge, Drop, Clear}
use Rattle.rw_photo.specs.declared.config.Config.{Config}
use Rattle.rw_photo.specs.declared.counters.Counters.{Counters}
use Rattle.rw_photo.specs.Counts.{plus, sum_of, no_counts, one_miss, one_coalesced, with_late}
use Rattle.rw_photo.specs.Cache.{Cache, is_edge, is_stored, waiting_for, with_waiting}
use Rattle.rw_photo.specs.Storing.{QueueAndCounts, hit, store, same_queue, purge_if_stored}

-- Valid events

-- origins come behind the edges
abbrev pub is_origin : Config → Process → Bool
is_origin c p = nat_le c.edges p && nat_lt p (c.edges + c.origins)

-- an object's number, and its size in bytes
abbrev pub is_object : Object → Size → Bool
is_object o z = nat_lt o (2 ^ 64) && nat_le 1 z && nat_le z greatest_size

-- what may happen at process p at time t: requests and purges up to the latest time of a trace, and what may follow
-- from them
abbrev pub may_happen : Config → Time → Process → Body → Bool
may_happen c t p (Request o z) = is_edge c p && nat_le t latest_time && is_object o z
may_happen c t p (Miss o z g) =
    is_origin c p && is_edge c g && nat_le t (latest_time + c.up) && is_object o z
may_happen c t p (Fill o z) =
    is_edge c p && nat_le t (latest_time + c.up + c.down + c.back) && is_object o z
may_happen c t p (Purge o) = is_edge c p && nat_le t latest_time && nat_lt o (2 ^ 64)
may_happen c t p (Drop o g) =
    is_origin c p && is_edge c g && nat_le t (latest_time + c.up) && nat_lt o (2 ^ 64)
may_happen c t p (Clear o) =
    is_edge c p && nat_le t (latest_time + c.up + c.down) && nat_lt o (2 ^ 64)

-- an event in the ranges of its numbers, that may happen
abbrev pub is_valid : Config → Event Body → Bool
is_valid c e =
    nat_lt e.source (2 ^ 32) && nat_lt e.number (2 ^ 64) && may_happen c e.time e.to e.body

-- What each does

-- the object that an event is about
abbrev pub object_of : Body → Object
object_of (Request o z) = o
object_of (Miss o z g) = o
object_of (Fill o z) = o
object_of (Purge o) = o
object_of (Drop o g) = o
object_of (Clear o) = o

-- what an event does at a cache: the queue after it, how many requests then wait for its object, what it counts, and
-- what it sends
pub record Happening : Type 0 where
  pub queue : QueueState
  pub waiting : Option Count
  pub counts : Counters
  pub sent : List (Event Body)

-- an event that process p sends, numbered by how many it has sent before
abbrev pub event_from : Process → Cache → Time → Process → Body → Event Body
event_from p s time to body =
    record { time = time; source = p + 1; number = s.sends; to = to; body = body }

-- the origin that is asked for an object
abbrev pub origin_of : Config → Object → Process
origin_of c o = c.edges + o % c.origins

-- a request that misses waits for its object, with those that wait for it already; the first asks the origin
abbrev pub edge_miss : Config → Process → Cache → Time → Object → Size → Option Count → Happening
edge_miss c p s t o z (Some n) =
    record { queue = s.queue; waiting = Some (plus n 1); counts = one_coalesced z; sent = [] }
edge_miss c p s t o z None =
    record {
      queue = s.queue;
      waiting = Some 1;
      counts = one_miss z no_counts;
      sent = event_from p s (t + c.up) (origin_of c o) (Miss o z p) ∷ [];
    }

-- what a hit or a store makes of the queue; who waits for the object goes on waiting
abbrev pub serving : Cache → Object → QueueAndCounts → List (Event Body) → Happening
serving s o made sent =
    record { queue = made.queue; waiting = waiting_for s o; counts = made.counts; sent = sent }

-- a request at an edge
abbrev pub request_happening : Config → Process → Cache → Time → Object → Size → Happening
request_happening c p s t o z =
    if is_stored s o
    then serving s o (hit c.policy s.queue o z) []
    else edge_miss c p s t o z (waiting_for s o)

-- what a miss at an origin stores of what the backend gave
abbrev pub backend_store : Config → Cache → Object → Size → QueueAndCounts
backend_store c s o z =
    let made = store c.policy s.queue o z in
    record made { counts = one_miss z made.counts }

-- a miss at an origin, which fetches what it lacks from the backend and stores it; edge g is sent a fill
abbrev pub miss_happening : Config → Process → Cache → Time → Object → Size → Process → Happening
miss_happening c p s t o z g =
    if is_stored s o
    then serving s o (hit c.policy s.queue o z) (event_from p s (t + c.down) g (Fill o z) ∷ [])
    else serving s o (backend_store c s o z)
    (event_from p s (t + c.down + c.back) g (Fill o z) ∷ [])

-- a fill at an edge, which answers the requests that wait for it, if any, and stores what the edge lacks
abbrev pub fill_happening : Config → Cache → Object → Size → Happening
fill_happening c s o z =
    let late = unwrap_or (waiting_for s o) 0 in
    let there = is_stored s o in
    let made = if there then same_queue s.queue no_counts else store c.policy s.queue o z in
    record { queue = made.queue; waiting = None; counts = with_late late made.counts; sent = [] }

-- the edges but g, in rising number
abbrev pub edges_but : Config → Process → List Process
edges_but c g = filter (λ edge. not (nat_eq edge g)) (range_with_len 0 c.edges)

-- process p, which has sent n events before, tells each edge but g to let go of an object
abbrev pub clears_of : Config → Process → Count → Time → Object → Process → List (Event Body)
clears_of c p n time o g =
    map_from 0
    (λ i edge. record { time = time; source = p + 1; number = plus n i; to = edge; body = Clear o })
    (edges_but c g)

-- an object is to leave a cache, where it is stored; who waits for it goes on waiting
abbrev pub purge_happening : Config → Cache → Object → List (Event Body) → Happening
purge_happening c s o sent = serving s o (purge_if_stored c.reclaim s.queue o) sent

-- what happens at process p at time t
abbrev pub happening : Config → Process → Cache → Time → Body → Happening
happening c p s t (Request o z) = request_happening c p s t o z
happening c p s t (Miss o z g) = miss_happening c p s t o z g
happening c p s t (Fill o z) = fill_happening c s o z
happening c p s t (Purge o) =
    purge_happening c s o (event_from p s (t + c.up) (origin_of c o) (Drop o p) ∷ [])
happening c p s t (Drop o g) = purge_happening c s o (clears_of c p s.sends (t + c.down) o g)
happening c p s t (Clear o) = purge_happening c s o []

-- the cache after what happens to object o
abbrev pub cache_after : Cache → Object → Happening → Cache
cache_after s o h =
    record {
      queue = h.queue;
      awaited = with_waiting s.awaited o h.waiting;
      sends = plus s.sends (length h.sent);
      counters = sum_of s.counters h.counts;
    }

-- the least time from an event to what it sends: the shorter way between an edge and an origin
abbrev pub lookahead_of : Config → Time
lookahead_of c = min c.up c.down

-- the cache after an event, and what the cache sends
abbrev pub step : Config → Process → Cache → Event Body → Cache × List (Event Body)
step c p s e =
    let h = happening c p s e.time e.body in
    (cache_after s (object_of e.body) h, h.sent)

-- From a trace

-- what a row of this kind has happen to an object; the size is that of a get
abbrev pub body_of : Kind → Object → Size → Body
body_of kind.Get o z = Request o z
body_of kind.Purge o z = Purge o

-- row n of a trace, as an event
abbrev pub event_of : Count → Row → Event Body
event_of n r =
    record {
      time = r.time;
      source = 0;
      number = n;
      to = r.edge;
      body = body_of r.kind r.object r.size;
    }
