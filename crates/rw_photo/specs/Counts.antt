-- What caches count, modulo 2 ^ 64.
use Rattle.std.specs.Prelude.{◌≡◌, ◌+◌, ◌-◌, ◌%◌, ◌^◌, Bool}
use Rattle.rw_vt.specs.Words.{Count}
use Rattle.rw_numbers.specs.Words.{Size}
use Rattle.rw_ripq.specs.Work.{one_if}
use Rattle.rw_ripq.specs.declared.Tally.{Tally}
use Rattle.rw_photo.specs.declared.counters.Counters.{Counters}

-- a count grows by k
abbrev pub plus : Count → Count → Count
plus n k = (n + k) % 2 ^ 64

-- a count falls by k
abbrev pub minus : Count → Count → Count
minus n k = (n + (2 ^ 64 - k)) % 2 ^ 64

-- counters of which each is as the function says; the function is told which one, by how that is read
abbrev pub counters_by : ((Counters → Count) → Count) → Counters
counters_by count =
    record {
      requests = count (λ k. k.requests);
      hits = count (λ k. k.hits);
      misses = count (λ k. k.misses);
      coalesced = count (λ k. k.coalesced);
      late = count (λ k. k.late);
      bypassed = count (λ k. k.bypassed);
      inserted = count (λ k. k.inserted);
      evicted = count (λ k. k.evicted);
      reinserted = count (λ k. k.reinserted);
      promoted = count (λ k. k.promoted);
      writes = count (λ k. k.writes);
      splits = count (λ k. k.splits);
      merges = count (λ k. k.merges);
      hit_bytes = count (λ k. k.hit_bytes);
      request_bytes = count (λ k. k.request_bytes);
      inserted_bytes = count (λ k. k.inserted_bytes);
      purges = count (λ k. k.purges);
      purged = count (λ k. k.purged);
    }

-- all counts are 0
abbrev pub no_counts : Counters
no_counts = counters_by (λ which. 0)

-- each count grows by what was counted
abbrev pub sum_of : Counters → Counters → Counters
sum_of counters counted = counters_by (λ which. plus (which counters) (which counted))

-- each count falls by what was counted
abbrev pub difference_of : Counters → Counters → Counters
difference_of counters counted = counters_by (λ which. minus (which counters) (which counted))

-- the counts fit their type: each is what it is modulo 2 ^ 64
abbrev pub AreCounts : Counters → Type 0
AreCounts counters = counters_by (λ which. which counters % 2 ^ 64) ≡ counters

-- What one event counts

-- a hit by a request for so many bytes, which moved its object or not
abbrev pub one_hit : Bool → Size → Counters
one_hit moved z =
    record no_counts {
      requests = 1;
      hits = 1;
      promoted = one_if moved;
      hit_bytes = z;
      request_bytes = z;
    }

-- a purge, of an object that was stored or not
abbrev pub one_purge : Bool → Counters
one_purge stored = record no_counts { purges = 1; purged = one_if stored }

-- a miss by a request for so many bytes, added to what storing its object counts
abbrev pub one_miss : Size → Counters → Counters
one_miss z counts = record counts { requests = 1; misses = 1; request_bytes = z }

-- a miss by a request for so many bytes, whose object is on its way already
abbrev pub one_coalesced : Size → Counters
one_coalesced z = record (one_miss z no_counts) { coalesced = 1 }

-- a fill that answers n requests, added to what storing its object counts
abbrev pub with_late : Count → Counters → Counters
with_late n counts = record counts { late = n }

-- an object that is too large for a block
abbrev pub one_bypassed : Counters
one_bypassed = record no_counts { bypassed = 1 }

-- an object of so many bytes that is stored
abbrev pub one_inserted : Tally → Size → Counters
one_inserted t z =
    record no_counts {
      inserted = 1;
      evicted = t.evicted;
      reinserted = t.reinserted;
      writes = t.writes;
      splits = t.splits;
      merges = t.merges;
      inserted_bytes = z;
    }
