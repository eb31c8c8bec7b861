-- What the code of an event did, put together.
use Rattle.std.proofs.Common.{◌≡◌, ℕ, ◌+◌, ◌^◌, ◌%◌, ◌<◌, List, [], ◌∷◌, ◌++◌, Option, Some, None, Bool, true, false, refl, sym, ◌∙◌, ap, subst, arith, length}
use Rattle.std.specs.Prelude.{cond, nat_lt, unwrap_or}
use Rattle.std.specs.List.Sorted.{IsStrictlySortedBy}
use Rattle.std.specs.Map.{keys_of, lookup}
use Rattle.std.specs.BTreeMap.{is_at}
use Rattle.std.specs.Ordering.{nat_cmp}
use Rattle.rw_vt.specs.declared.event.Event.{Event}
use Rattle.rw_blocks.proofs.Entries.{insert_entry-same, remove_entry-none}
use Rattle.rw_blocks.specs.declared.Mark.{Mark}
use Rattle.rw_blocks.specs.State.{QueueState}
use Rattle.rw_ripq.specs.declared.Policy.{Policy}
use Rattle.rw_ripq.specs.declared.Policy.TheVariants.{Off, Lru, Slru}
use Rattle.rw_ripq.specs.Trail.{Leads}
use Rattle.rw_ripq.specs.Weight.{IsShort}
use Rattle.rw_ripq.specs.Insert.{insert}
use Rattle.rw_photo.specs.declared.body.Body.{Body}
use Rattle.rw_photo.specs.declared.body.Body.TheVariants.{Miss}
use Rattle.rw_photo.specs.declared.config.Config.{Config}
use Rattle.rw_photo.specs.declared.counters.Counters.{Counters}
use Rattle.rw_photo.specs.Counts.{AreCounts, sum_of, counters_by, plus, no_counts, one_bypassed, one_coalesced, one_miss, with_late}
use Rattle.rw_photo.specs.Cache.{Cache, is_stored, waiting_more, waiting_for, with_waiting}
use Rattle.rw_photo.specs.Deeds.{HasHappened, once_made, stored_if}
use Rattle.rw_photo.specs.Events.{backend_store, edge_miss, event_from, fill_happening, origin_of, request_happening, serving}
use Rattle.rw_photo.specs.Lawful.{placed}
use Rattle.rw_photo.specs.Storing.{QueueAndCounts, hit, insertion, same_queue, store}

-- ---- numbers modulo 2 ^ 64
plus-none : (n : ℕ) → n < 2 ^ 64 → plus n 0 ≡ n
plus-none n small = omega arith

plus-again : (n k : ℕ) → plus (plus n k) 0 ≡ plus n k
plus-again n k = omega arith

plus-later : (n k : ℕ) → plus (plus n 0) k ≡ plus n k
plus-later n k = omega arith

plus-wrapped : (n : ℕ) → plus (n % 2 ^ 64) 0 ≡ n % 2 ^ 64
plus-wrapped n = omega arith

-- nothing more is counted
pub uncounted : (k : Counters) → AreCounts k → sum_of k no_counts ≡ k
uncounted k counts = subst (λ x. sum_of x no_counts ≡ x) counts (λ i. counters_by (λ which. plus-wrapped (which k) i))

-- a miss, counted behind what counts none
pub then_missed : (n d : Counters) (z : ℕ) → d.requests ≡ 0 → d.misses ≡ 0 → d.request_bytes ≡ 0 → sum_of (sum_of n d) (one_miss z no_counts) ≡ sum_of n (one_miss z d)
then_missed n d z requests misses bytes i =
    record {
      requests = (ap (λ k. plus (plus n.requests k) 1) requests ∙ plus-later n.requests 1) i;
      hits = plus-again n.hits d.hits i;
      misses = (ap (λ k. plus (plus n.misses k) 1) misses ∙ plus-later n.misses 1) i;
      coalesced = plus-again n.coalesced d.coalesced i;
      late = plus-again n.late d.late i;
      bypassed = plus-again n.bypassed d.bypassed i;
      inserted = plus-again n.inserted d.inserted i;
      evicted = plus-again n.evicted d.evicted i;
      reinserted = plus-again n.reinserted d.reinserted i;
      promoted = plus-again n.promoted d.promoted i;
      writes = plus-again n.writes d.writes i;
      splits = plus-again n.splits d.splits i;
      merges = plus-again n.merges d.merges i;
      hit_bytes = plus-again n.hit_bytes d.hit_bytes i;
      request_bytes = (ap (λ k. plus (plus n.request_bytes k) z) bytes ∙ plus-later n.request_bytes z) i;
      inserted_bytes = plus-again n.inserted_bytes d.inserted_bytes i;
      purges = plus-again n.purges d.purges i;
      purged = plus-again n.purged d.purged i;
    }

-- the requests that a fill answers, counted behind what counts none
pub then_late : (n d : Counters) (m : ℕ) → d.late ≡ 0 → sum_of (sum_of n d) (with_late m no_counts) ≡ sum_of n (with_late m d)
then_late n d m late i =
    record {
      requests = plus-again n.requests d.requests i;
      hits = plus-again n.hits d.hits i;
      misses = plus-again n.misses d.misses i;
      coalesced = plus-again n.coalesced d.coalesced i;
      late = (ap (λ k. plus (plus n.late k) m) late ∙ plus-later n.late m) i;
      bypassed = plus-again n.bypassed d.bypassed i;
      inserted = plus-again n.inserted d.inserted i;
      evicted = plus-again n.evicted d.evicted i;
      reinserted = plus-again n.reinserted d.reinserted i;
      promoted = plus-again n.promoted d.promoted i;
      writes = plus-again n.writes d.writes i;
      splits = plus-again n.splits d.splits i;
      merges = plus-again n.merges d.merges i;
      hit_bytes = plus-again n.hit_bytes d.hit_bytes i;
      request_bytes = plus-again n.request_bytes d.request_bytes i;
      inserted_bytes = plus-again n.inserted_bytes d.inserted_bytes i;
      purges = plus-again n.purges d.purges i;
      purged = plus-again n.purged d.purged i;
    }

-- ---- storing counts no request
record IsNoRequest (d : Counters) : Type 0 where
  requests : d.requests ≡ 0
  misses : d.misses ≡ 0
  request_bytes : d.request_bytes ≡ 0
  late : d.late ≡ 0

placed-no_request : (k : Policy) (q : QueueState) (o z : ℕ) → IsNoRequest (placed k q o z).counts
placed-no_request k q o z = go (nat_lt q.shape.block z)
  where
    go : (b : Bool) → IsNoRequest (cond b (same_queue q one_bypassed) (insertion (insert k q o z 1) z)).counts
    go true = record { requests = refl; misses = refl; request_bytes = refl; late = refl }
    go false = record { requests = refl; misses = refl; request_bytes = refl; late = refl }

store-no_request : (k : Policy) (q : QueueState) (o z : ℕ) → IsNoRequest (store k q o z).counts
store-no_request Off q o z = record { requests = refl; misses = refl; request_bytes = refl; late = refl }
store-no_request Lru q o z = placed-no_request Lru q o z
store-no_request (Slru levels) q o z = placed-no_request (Slru levels) q o z

stored-late : (k : Policy) (q : QueueState) (o z : ℕ) (there : Bool) → (stored_if k q o z there).counts.late ≡ 0
stored-late k q o z true = refl
stored-late k q o z false = (store-no_request k q o z).late

-- ---- who waits
waiting-same : (m : List (ℕ × ℕ)) (o : ℕ) (w : Option ℕ) → IsStrictlySortedBy nat_cmp (keys_of m) → lookup (is_at (nat_cmp o)) m ≡ w → with_waiting m o w ≡ m
waiting-same m o (Some n) up is = insert_entry-same m o n up is
waiting-same m o None up is = remove_entry-none m o is

-- ---- an empty trail
pub leads_nowhere : (ms : List Mark) (q : QueueState) → ms ≡ [] → Leads ms q q
leads_nowhere ms q none = rw none (record { can = tt; back = refl })

pub short_nowhere : (ms : List Mark) (q r : QueueState) → ms ≡ [] → IsShort ms q r
short_nowhere ms q r none = rw none (omega arith)

append-none : (xs : List (Event Body)) → xs ++ [] ≡ xs
append-none [] = refl
append-none (x ∷ xs) = ap (λ l. x ∷ l) (append-none xs)

-- ---- what serves an object, and what is sent then
pub served : (s mid now : Cache) (o n : ℕ) (made : QueueAndCounts) (sent told out : List (Event Body)) (kept : Bool) (ms : List Mark) → IsStrictlySortedBy nat_cmp (keys_of s.awaited)
    → mid ≡ once_made s made → now ≡ record mid { sends = plus mid.sends n } → n ≡ length sent → out ≡ told ++ sent
    → (kept ≡ true → Leads ms s.queue mid.queue) → (kept ≡ true → IsShort ms s.queue mid.queue)
    → HasHappened (serving s o made sent) s o now told out kept ms
served s mid now o n made sent told out kept ms up is then count all leads short =
    record {
      changed =
          then
          ∙ (ap (λ (x : Cache). record x { sends = plus x.sends n }) is
          ∙ (ap (λ m. record (once_made s made) { awaited = m; sends = plus s.sends n }) (sym (waiting-same s.awaited o (waiting_for s o) up refl))
          ∙ ap (λ k. record (once_made s made) { awaited = with_waiting s.awaited o (waiting_for s o); sends = plus s.sends k }) count));
      sent = all;
      leads = λ k. subst (Leads ms s.queue) (ap (λ (x : Cache). x.queue) (sym then)) (leads k);
      short = λ k. subst (IsShort ms s.queue) (ap (λ (x : Cache). x.queue) (sym then)) (short k);
    }

-- nothing is sent
pub served_alone : (s now : Cache) (o : ℕ) (made : QueueAndCounts) (told : List (Event Body)) (kept : Bool) (ms : List Mark) → IsStrictlySortedBy nat_cmp (keys_of s.awaited) → s.sends < 2 ^ 64
    → now ≡ once_made s made → (kept ≡ true → Leads ms s.queue now.queue) → (kept ≡ true → IsShort ms s.queue now.queue)
    → HasHappened (serving s o made []) s o now told told kept ms
served_alone s now o made told kept ms up few is leads short =
    served s now now o 0 made [] told told kept ms up is same refl (sym (append-none told)) leads short
  where
    same : now ≡ record now { sends = plus now.sends 0 }
    same = is ∙ (ap (λ n. record (once_made s made) { sends = n }) (sym (plus-none s.sends few)) ∙ ap (λ (x : Cache). record x { sends = plus x.sends 0 }) (sym is))

-- what a miss at an origin stores, which counts the miss
pub stored_for_miss : (c : Config) (s mid now : Cache) (o z : ℕ) → mid ≡ once_made s (store c.policy s.queue o z) → now ≡ record mid { counters = sum_of mid.counters (one_miss z no_counts) }
    → now ≡ once_made s (backend_store c s o z)
stored_for_miss c s mid now o z is then =
    let none = store-no_request c.policy s.queue o z in
    then
    ∙ (ap (λ (x : Cache). record x { counters = sum_of x.counters (one_miss z no_counts) }) is
    ∙ ap (λ k. record s { queue = (store c.policy s.queue o z).queue; counters = k }) (then_missed s.counters (store c.policy s.queue o z).counts z none.requests none.misses none.request_bytes))

-- a request for an object that is on its way already
pub coalesced : (c : Config) (p : ℕ) (s now : Cache) (t o z n : ℕ) (told : List (Event Body)) (kept : Bool) (ms : List Mark) → s.sends < 2 ^ 64 → is_stored s o ≡ false → waiting_for s o ≡ Some n → ms ≡ []
    → now ≡ record s { awaited = with_waiting s.awaited o (Some (waiting_more (waiting_for s o))); counters = sum_of s.counters (one_coalesced z) }
    → HasHappened (request_happening c p s t o z) s o now told told kept ms
coalesced c p s now t o z n told kept ms few new waits none is =
    subst (λ b. HasHappened (cond b (serving s o (hit c.policy s.queue o z) []) (edge_miss c p s t o z (waiting_for s o))) s o now told told kept ms) (sym new)
    (subst (λ w. HasHappened (edge_miss c p s t o z w) s o now told told kept ms) (sym waits)
    (record {
      changed =
          is
          ∙ (ap (λ w. record s { awaited = with_waiting s.awaited o (Some (waiting_more w)); counters = sum_of s.counters (one_coalesced z) }) waits
          ∙ ap (λ m. record s { awaited = with_waiting s.awaited o (Some (plus n 1)); counters = sum_of s.counters (one_coalesced z); sends = m }) (sym (plus-none s.sends few)));
      sent = sym (append-none told);
      leads = λ _. subst (Leads ms s.queue) (ap (λ (x : Cache). x.queue) (sym is)) (leads_nowhere ms s.queue none);
      short = λ _. short_nowhere ms s.queue now.queue none;
    }))

-- the first request for an object
pub asked : (c : Config) (p : ℕ) (s now : Cache) (t o z : ℕ) (told out : List (Event Body)) (kept : Bool) (ms : List Mark) → is_stored s o ≡ false → waiting_for s o ≡ None → ms ≡ []
    → now ≡ record s { awaited = with_waiting s.awaited o (Some (waiting_more (waiting_for s o))); counters = sum_of s.counters (one_miss z no_counts); sends = plus s.sends 1 }
    → out ≡ told ++ event_from p s (t + c.up) (origin_of c o) (Miss o z p) ∷ []
    → HasHappened (request_happening c p s t o z) s o now told out kept ms
asked c p s now t o z told out kept ms new waits none is sent =
    subst (λ b. HasHappened (cond b (serving s o (hit c.policy s.queue o z) []) (edge_miss c p s t o z (waiting_for s o))) s o now told out kept ms) (sym new)
    (subst (λ w. HasHappened (edge_miss c p s t o z w) s o now told out kept ms) (sym waits)
    (record {
      changed = is ∙ ap (λ w. record s { awaited = with_waiting s.awaited o (Some (waiting_more w)); counters = sum_of s.counters (one_miss z no_counts); sends = plus s.sends 1 }) waits;
      sent = sent;
      leads = λ _. subst (Leads ms s.queue) (ap (λ (x : Cache). x.queue) (sym is)) (leads_nowhere ms s.queue none);
      short = λ _. short_nowhere ms s.queue now.queue none;
    }))

-- a fill
pub filled : (c : Config) (s mid now : Cache) (o z m : ℕ) (told : List (Event Body)) (kept : Bool) (ms : List Mark) → s.sends < 2 ^ 64 → m ≡ unwrap_or (waiting_for s o) 0
    → mid ≡ once_made (record s { awaited = with_waiting s.awaited o None }) (stored_if c.policy s.queue o z (is_stored s o))
    → now ≡ record mid { counters = sum_of mid.counters (with_late m no_counts) }
    → (kept ≡ true → Leads ms s.queue mid.queue) → (kept ≡ true → IsShort ms s.queue mid.queue)
    → HasHappened (fill_happening c s o z) s o now told told kept ms
filled c s mid now o z m told kept ms few waited is then leads short =
    record {
      changed =
          then
          ∙ (ap (λ (x : Cache). record x { counters = sum_of x.counters (with_late m no_counts) }) is
          ∙ (ap (λ k. record done { counters = k }) (then_late s.counters made.counts m (stored-late c.policy s.queue o z (is_stored s o)))
          ∙ (ap (λ n. record done { counters = sum_of s.counters (with_late n made.counts) }) waited
          ∙ ap (λ n. record done { counters = sum_of s.counters (with_late (unwrap_or (waiting_for s o) 0) made.counts); sends = n }) (sym (plus-none s.sends few)))));
      sent = sym (append-none told);
      leads = λ k. subst (Leads ms s.queue) (ap (λ (x : Cache). x.queue) (sym then)) (leads k);
      short = λ k. subst (IsShort ms s.queue) (ap (λ (x : Cache). x.queue) (sym then)) (short k);
    }
  where
    made : QueueAndCounts
    made = stored_if c.policy s.queue o z (is_stored s o)

    done : Cache
    done = record s { queue = made.queue; awaited = with_waiting s.awaited o None }
