-- Why the laws of specs/Laws.antt hold. These lemmas stand in specs/ since the laws cite them, and specs/ sees no
-- proofs/.
use Rattle.std.specs.Prelude.{◌≡◌, ℕ, zero, suc, not, nat_eq, ◌+◌, ◌^◌, ◌%◌, ◌<◌, ◌≤◌, Bool, true, false, ◌&&◌, if◌then◌else◌, nat_lt, List, [], ◌∷◌, Option, Some, None, All, refl, is_some, unwrap_or}
use Rattle.std.specs.declared.cmp.Ordering.{Ordering}
use Rattle.std.specs.declared.cmp.Ordering.TheVariants.{Less, Equal, Greater}
use Rattle.std.specs.List.Sorted.{IsStrictlySortedBy}
use Rattle.std.specs.List.{range_with_len}
use Rattle.std.specs.Map.{keys_of, values_of}
use Rattle.std.specs.Ordering.{nat_cmp, ordering_then}
use Rattle.std.proofs.Common.{arith, sym, ◌∙◌, ap, true≢false}
use Rattle.std.proofs.Math.Nat.{min-le_left, min-le_right}
use Rattle.std.proofs.lemmas.Bool.Decides.{nat_tests}
use Rattle.std.proofs.lemmas.Cmp.{ranked, by_ranked}
use Rattle.std.proofs.lemmas.List.Elements.{All-cons, All-filter, All-head, All-nil, All-tail}
use Rattle.rw_vt.specs.Words.{Process, Time}
use Rattle.rw_vt.specs.Limits.{end_of_time}
use Rattle.rw_vt.specs.System.{map_from}
use Rattle.rw_vt.specs.declared.event.Event.{Event}
use Rattle.rw_blocks.proofs.Entries.{found-value, sorted-insert_entry, sorted-remove_entry, values-insert_entry, values-remove_entry}
use Rattle.rw_numbers.specs.Words.{Object, Size}
use Rattle.rw_blocks.specs.State.{QueueState, row_at}
use Rattle.rw_blocks.specs.Loose.{IsWellFormedQueue}
use Rattle.rw_blocks.specs.declared.Place.{Place}
use Rattle.rw_ripq.specs.declared.Policy.{Policy}
use Rattle.rw_ripq.specs.declared.Policy.TheVariants.{Off, Lru, Slru}
use Rattle.rw_ripq.specs.Insert.{insert}
use Rattle.rw_ripq.proofs.Laws.{insert-laws, promote-laws, purge-laws}
use Rattle.rw_photo.specs.declared.body.Body.{Body}
use Rattle.rw_photo.specs.declared.body.Body.TheVariants.{Request, Miss, Fill, Purge, Drop, Clear}
use Rattle.rw_photo.specs.declared.config.Config.{Config}
use Rattle.rw_photo.specs.declared.counters.Counters.{Counters}
use Rattle.rw_photo.specs.Counts.{plus, AreCounts, sum_of, counters_by, no_counts, one_bypassed, with_late}
use Rattle.rw_photo.specs.Cache.{Cache, IsWellFormed, is_stored, shape_at, waiting_for, with_waiting}
use Rattle.rw_photo.specs.Storing.{QueueAndCounts, hit, insertion, store, same_queue, purge_if_stored}
use Rattle.rw_photo.specs.Events.{Happening, clears_of, edges_but, purge_happening, backend_store, happening, is_valid, may_happen, edge_miss, origin_of, event_from, lookahead_of, serving}

-- ---- the definitions with the test that each makes as an argument, for proofs by cases
abbrev pub placed : Policy → QueueState → Object → Size → QueueAndCounts
placed policy q o z =
    if nat_lt q.shape.block z
    then same_queue q one_bypassed
    else insertion (insert policy q o z 1) z

abbrev pub requested_if : Config → Process → Cache → Time → Object → Size → Bool → Happening
requested_if c p s t o z there =
    if there then serving s o (hit c.policy s.queue o z) []
    else edge_miss c p s t o z (waiting_for s o)

abbrev pub asked_if : Config → Process → Cache → Time → Object → Size → Process → Bool → Happening
asked_if c p s t o z g there =
    if there
    then serving s o (hit c.policy s.queue o z) (event_from p s (t + c.down) g (Fill o z) ∷ [])
    else serving s o (backend_store c s o z)
    (event_from p s (t + c.down + c.back) g (Fill o z) ∷ [])

abbrev pub filled_if : Config → Cache → Object → Size → Bool → Happening
filled_if c s o z there =
    let k : QueueAndCounts = if there then same_queue s.queue no_counts
    else store c.policy s.queue o z in
    let late = unwrap_or (waiting_for s o) 0 in
    record { queue = k.queue; waiting = None; counts = with_late late k.counts; sent = [] }

pub both : (a b : Bool) → (a && b) ≡ true → (a ≡ true) × (b ≡ true)
both true b h = (refl, h)
both false b h = cc

-- ---- valid events are in their ranges
pub early : (c : Config) (t p : ℕ) (b : Body) → may_happen c t p b ≡ true
    → (t < end_of_time) × (p < c.edges + c.origins)
early c t p (Request o z) v =
    let r = c.in_range in (grind (arith, nat_tests), grind (arith, nat_tests))
early c t p (Miss o z g) v =
    let r = c.in_range in (grind (arith, nat_tests), grind (arith, nat_tests))
early c t p (Fill o z) v =
    let r = c.in_range in (grind (arith, nat_tests), grind (arith, nat_tests))
early c t p (Purge o) v =
    let r = c.in_range in (grind (arith, nat_tests), grind (arith, nat_tests))
early c t p (Drop o g) v =
    let r = c.in_range in (grind (arith, nat_tests), grind (arith, nat_tests))
early c t p (Clear o) v =
    let r = c.in_range in (grind (arith, nat_tests), grind (arith, nat_tests))

-- ---- a step keeps a cache well formed, and its sends are valid, from the process, and strictly later
-- the queue of process p
pub record IsQueueAt (c : Config) (p : ℕ) (q : QueueState) : Type 0 where
  pub well_formed : IsWellFormedQueue q
  pub shape : q.shape ≡ shape_at c p
  pub empty : c.policy ≡ Off → q.rows ≡ []

queue-at : (c : Config) (p : ℕ) (s : Cache) → IsWellFormed c p s → IsQueueAt c p s.queue
queue-at c p s w = record { well_formed = w.queue; shape = w.shape; empty = w.empty }

-- an empty queue has no row
none-stored : (q : QueueState) (o : ℕ) → q.rows ≡ [] → is_some (row_at q o) ≡ true → ⊥
none-stored q o none there =
    let row : row_at q o ≡ None = rw none refl in absurd (true≢false (sym there ∙ ap is_some row))

some-stored : (o : Option Place) → is_some o ≡ true → (r : Place) × (o ≡ Some r)
some-stored (Some r) there = (r, refl)
some-stored None there = cc

none-found : (o : Option Place) → is_some o ≡ false → o ≡ None
none-found (Some r) there = cc
none-found None there = refl

hit-at : (c : Config) (p : ℕ) (q : QueueState) (o z : ℕ) → IsQueueAt c p q
    → is_some (row_at q o) ≡ true → IsQueueAt c p (hit c.policy q o z).queue
hit-at c p q o z at there =
    let found = some-stored (row_at q o) there in
    let laws = promote-laws c.policy q o found.0 at.well_formed found.1 in
    record {
      well_formed = laws.well_formed;
      shape = laws.shape ∙ at.shape;
      empty = λ off. absurd (none-stored q o (at.empty off) there);
    }

purged-at : (c : Config) (p : ℕ) (q : QueueState) (o : ℕ) → IsQueueAt c p q
    → IsQueueAt c p (purge_if_stored c.reclaim q o).queue
purged-at c p q o at = go (is_some (row_at q o)) refl
  where
    go : (b : Bool) → is_some (row_at q o) ≡ b → IsQueueAt c p (purge_if_stored c.reclaim q o).queue
    go false new = rw new at
    go true there =
        let found = some-stored (row_at q o) there in
        let laws = purge-laws c.reclaim q o found.0 at.well_formed found.1 in
        rw there (record {
          well_formed = laws.well_formed;
          shape = laws.shape ∙ at.shape;
          empty = λ off. absurd (none-stored q o (at.empty off) there);
        })

placed-at : (c : Config) (p : ℕ) (k : Policy) (q : QueueState) (o z : ℕ) → (c.policy ≡ Off → ⊥)
    → IsQueueAt c p q → row_at q o ≡ None → 1 ≤ z → IsQueueAt c p (placed k q o z).queue
placed-at c p k q o z stores at new some = go (nat_lt q.shape.block z) refl
  where
    go : (b : Bool) → nat_lt q.shape.block z ≡ b → IsQueueAt c p (placed k q o z).queue
    go true large = rw large at
    go false fits =
        let small : z ≤ q.shape.block = grind (arith, nat_tests) in
        let laws = insert-laws k q o z 1 at.well_formed new some small in
        rw fits (record {
          well_formed = laws.well_formed;
          shape = laws.shape ∙ at.shape;
          empty = λ off. absurd (stores off);
        })

stored-at : (c : Config) (p : ℕ) (k : Policy) (q : QueueState) (o z : ℕ) → c.policy ≡ k
    → IsQueueAt c p q → row_at q o ≡ None → 1 ≤ z → IsQueueAt c p (store k q o z).queue
stored-at c p Off q o z is at new some = at
stored-at c p Lru q o z is at new some =
    placed-at c p Lru q o z (λ off. let h : Lru ≡ Off = sym is ∙ off in cc) at new some
stored-at c p (Slru levels) q o z is at new some =
    placed-at c p (Slru levels) q o z
    (λ off. let h : Slru levels ≡ Off = sym is ∙ off in cc) at new some

-- the number of requests that wait fits its type
abbrev pub WaitFew : Option ℕ → Type 0
WaitFew (Some n) = n < 2 ^ 64
WaitFew None = Unit {0}

found-few : (s : Cache) (o : ℕ) (w : Option ℕ) → All (λ n. n < 2 ^ 64) (values_of s.awaited)
    → waiting_for s o ≡ w → WaitFew w
found-few s o (Some n) all is = found-value (λ m. m < 2 ^ 64) s.awaited o n all is
found-few s o None all is = tt

-- what is said of one send
abbrev pub Follows : Config → ℕ → ℕ → Event Body → Type 0
Follows c p t f =
    (f.source ≡ p + 1) × (t < f.time) × (is_valid c f ≡ true) × (t + lookahead_of c ≤ f.time)

-- what is said of what happens at process p at time t
pub record IsFine (c : Config) (p t : ℕ) (h : Happening) : Type 0 where
  pub queue : IsQueueAt c p h.queue
  pub waiting : WaitFew h.waiting
  pub follow : All (Follows c p t) h.sent

one : (P : Event Body → Type 0) (f : Event Body) → P f → All P (f ∷ [])
one P f h = All-cons P f [] h (All-nil P)

-- neither way between an edge and an origin is shorter than the lookahead
no_sooner_up : (c : Config) (t : ℕ) → t + lookahead_of c ≤ t + c.up
no_sooner_up c t = let l = min-le_left c.up c.down in omega arith

no_sooner_down : (c : Config) (t : ℕ) → t + lookahead_of c ≤ t + c.down
no_sooner_down c t = let l = min-le_right c.up c.down in omega arith

-- an origin is asked by a valid miss
asks : (c : Config) (p : ℕ) (s : Cache) (t o z : ℕ) → s.sends < 2 ^ 64
    → may_happen c t p (Request o z) ≡ true
    → Follows c p t (event_from p s (t + c.up) (origin_of c o) (Miss o z p))
asks c p s t o z n v =
    let r = c.in_range in (refl, omega arith, grind (arith, nat_tests), no_sooner_up c t)

-- an edge is answered by a valid fill, at once or after the backend
answers-at_once : (c : Config) (p : ℕ) (s : Cache) (t o z g : ℕ) → s.sends < 2 ^ 64
    → may_happen c t p (Miss o z g) ≡ true
    → Follows c p t (event_from p s (t + c.down) g (Fill o z))
answers-at_once c p s t o z g n v =
    let r = c.in_range in (refl, omega arith, grind (arith, nat_tests), no_sooner_down c t)

answers-later : (c : Config) (p : ℕ) (s : Cache) (t o z g : ℕ) → s.sends < 2 ^ 64
    → may_happen c t p (Miss o z g) ≡ true
    → Follows c p t (event_from p s (t + c.down + c.back) g (Fill o z))
answers-later c p s t o z g n v =
    let r = c.in_range in
    let soon = no_sooner_down c t in
    (refl, omega arith, grind (arith, nat_tests), omega arith)

-- an origin is told by a valid drop
tells-origin : (c : Config) (p : ℕ) (s : Cache) (t o : ℕ) → s.sends < 2 ^ 64
    → may_happen c t p (Purge o) ≡ true
    → Follows c p t (event_from p s (t + c.up) (origin_of c o) (Drop o p))
tells-origin c p s t o n v =
    let r = c.in_range in (refl, omega arith, grind (arith, nat_tests), no_sooner_up c t)

-- an edge is told by a valid clear
abbrev clear_from : ℕ → ℕ → ℕ → ℕ → ℕ → ℕ → Event Body
clear_from p n time o i edge =
    record { time = time; source = p + 1; number = plus n i; to = edge; body = Clear o }

tells-edge : (c : Config) (p n t o g i edge : ℕ) → may_happen c t p (Drop o g) ≡ true
    → edge < c.edges → Follows c p t (clear_from p n (t + c.down) o i edge)
tells-edge c p n t o g i edge v within =
    let r = c.in_range in (refl, omega arith, grind (arith, nat_tests), no_sooner_down c t)

-- edges are below their number
below : (a n m : ℕ) → a + n ≡ m → All (λ edge. edge < m) (range_with_len a n)
below a zero m is = All-nil (λ edge. edge < m)
below a (suc n) m is =
    All-cons (λ edge. edge < m) a (range_with_len (a + 1) n) (omega arith)
    (below (a + 1) n m (omega arith))

are-edges : (c : Config) (g : ℕ) → All (λ edge. edge < c.edges) (edges_but c g)
are-edges c g =
    All-filter (λ edge. not (nat_eq edge g)) (λ edge. edge < c.edges) (range_with_len 0 c.edges)
    (below 0 c.edges c.edges (omega arith))

tells-edges : (c : Config) (p n t o g i : ℕ) (edges : List ℕ) → may_happen c t p (Drop o g) ≡ true
    → All (λ edge. edge < c.edges) edges
    → All (Follows c p t) (map_from i (clear_from p n (t + c.down) o) edges)
tells-edges c p n t o g i [] v within = All-nil (Follows c p t)
tells-edges c p n t o g i (edge ∷ edges) v within =
    All-cons (Follows c p t) (clear_from p n (t + c.down) o i edge)
    (map_from (i + 1) (clear_from p n (t + c.down) o) edges)
    (tells-edge c p n t o g i edge v (All-head (λ e. e < c.edges) edge edges within))
    (tells-edges c p n t o g (i + 1) edges v (All-tail (λ e. e < c.edges) edge edges within))

missed-fine : (c : Config) (p : ℕ) (s : Cache) (t o z : ℕ) (w : Option ℕ) → IsWellFormed c p s
    → may_happen c t p (Request o z) ≡ true → IsFine c p t (edge_miss c p s t o z w)
missed-fine c p s t o z (Some n) w v =
    record { queue = queue-at c p s w; waiting = omega arith; follow = All-nil (Follows c p t) }
missed-fine c p s t o z None w v =
    let question = event_from p s (t + c.up) (origin_of c o) (Miss o z p) in
    record {
      queue = queue-at c p s w;
      waiting = omega arith;
      follow = one (Follows c p t) question (asks c p s t o z w.sends v);
    }

requested-fine : (c : Config) (p : ℕ) (s : Cache) (t o z : ℕ) (b : Bool) → is_stored s o ≡ b
    → IsWellFormed c p s → may_happen c t p (Request o z) ≡ true
    → IsFine c p t (requested_if c p s t o z b)
requested-fine c p s t o z true is w v =
    record {
      queue = hit-at c p s.queue o z (queue-at c p s w) is;
      waiting = found-few s o (waiting_for s o) w.waiting refl;
      follow = All-nil (Follows c p t);
    }
requested-fine c p s t o z false is w v = missed-fine c p s t o z (waiting_for s o) w v

asked-fine : (c : Config) (p : ℕ) (s : Cache) (t o z g : ℕ) (b : Bool) → is_stored s o ≡ b
    → IsWellFormed c p s → may_happen c t p (Miss o z g) ≡ true
    → IsFine c p t (asked_if c p s t o z g b)
asked-fine c p s t o z g true is w v =
    let answer = event_from p s (t + c.down) g (Fill o z) in
    record {
      queue = hit-at c p s.queue o z (queue-at c p s w) is;
      waiting = found-few s o (waiting_for s o) w.waiting refl;
      follow = one (Follows c p t) answer (answers-at_once c p s t o z g w.sends v);
    }
asked-fine c p s t o z g false is w v =
    let answer = event_from p s (t + c.down + c.back) g (Fill o z) in
    let none : row_at s.queue o ≡ None = none-found (row_at s.queue o) is in
    let some : 1 ≤ z = grind (arith, nat_tests) in
    record {
      queue = stored-at c p c.policy s.queue o z refl (queue-at c p s w) none some;
      waiting = found-few s o (waiting_for s o) w.waiting refl;
      follow = one (Follows c p t) answer (answers-later c p s t o z g w.sends v);
    }

filled-fine : (c : Config) (p : ℕ) (s : Cache) (t o z : ℕ) (b : Bool) → is_stored s o ≡ b
    → IsWellFormed c p s → may_happen c t p (Fill o z) ≡ true → IsFine c p t (filled_if c s o z b)
filled-fine c p s t o z true is w v =
    record { queue = queue-at c p s w; waiting = tt; follow = All-nil (Follows c p t) }
filled-fine c p s t o z false is w v =
    let none : row_at s.queue o ≡ None = none-found (row_at s.queue o) is in
    let some : 1 ≤ z = grind (arith, nat_tests) in
    record {
      queue = stored-at c p c.policy s.queue o z refl (queue-at c p s w) none some;
      waiting = tt;
      follow = All-nil (Follows c p t);
    }

purged-fine : (c : Config) (p : ℕ) (s : Cache) (t o : ℕ) (sent : List (Event Body))
    → IsWellFormed c p s → All (Follows c p t) sent → IsFine c p t (purge_happening c s o sent)
purged-fine c p s t o sent w follow =
    record {
      queue = purged-at c p s.queue o (queue-at c p s w);
      waiting = found-few s o (waiting_for s o) w.waiting refl;
      follow = follow;
    }

happening-fine : (c : Config) (p : ℕ) (s : Cache) (t : ℕ) (b : Body) → IsWellFormed c p s
    → may_happen c t p b ≡ true → IsFine c p t (happening c p s t b)
happening-fine c p s t (Request o z) w v = requested-fine c p s t o z (is_stored s o) refl w v
happening-fine c p s t (Miss o z g) w v = asked-fine c p s t o z g (is_stored s o) refl w v
happening-fine c p s t (Fill o z) w v = filled-fine c p s t o z (is_stored s o) refl w v
happening-fine c p s t (Purge o) w v =
    let order = event_from p s (t + c.up) (origin_of c o) (Drop o p) in
    purged-fine c p s t o (order ∷ []) w
    (one (Follows c p t) order (tells-origin c p s t o w.sends v))
happening-fine c p s t (Drop o g) w v =
    purged-fine c p s t o (clears_of c p s.sends (t + c.down) o g) w
    (tells-edges c p s.sends t o g 0 (edges_but c g) v (are-edges c g))
happening-fine c p s t (Clear o) w v = purged-fine c p s t o [] w (All-nil (Follows c p t))

pub event-fine : (c : Config) (p : ℕ) (s : Cache) (e : Event Body) → IsWellFormed c p s
    → is_valid c e ≡ true → e.to ≡ p → IsFine c p e.time (happening c p s e.time e.body)
event-fine c p s e w v at =
    let numbers = nat_lt e.source (2 ^ 32) && nat_lt e.number (2 ^ 64) in
    let parts = both numbers (may_happen c e.time e.to e.body) v in
    happening-fine c p s e.time e.body w (ap (λ q. may_happen c e.time q e.body) (sym at) ∙ parts.1)

pub ascending-with : (m : List (ℕ × ℕ)) (o : ℕ) (w : Option ℕ)
    → IsStrictlySortedBy nat_cmp (keys_of m)
    → IsStrictlySortedBy nat_cmp (keys_of (with_waiting m o w))
ascending-with m o (Some n) up = sorted-insert_entry m o n up
ascending-with m o None up = sorted-remove_entry m o up

pub few-with : (m : List (ℕ × ℕ)) (o : ℕ) (w : Option ℕ) → All (λ n. n < 2 ^ 64) (values_of m)
    → WaitFew w → All (λ n. n < 2 ^ 64) (values_of (with_waiting m o w))
few-with m o (Some n) all few = values-insert_entry (λ n. n < 2 ^ 64) m o n all few
few-with m o None all few = values-remove_entry (λ n. n < 2 ^ 64) m o all

wrapped-once : (n : ℕ) → n % 2 ^ 64 % 2 ^ 64 ≡ n % 2 ^ 64
wrapped-once n = omega arith

pub added-counts : (k d : Counters) → AreCounts (sum_of k d)
added-counts k d i = counters_by (λ which. wrapped-once (which k + which d) i)

-- ---- bodies that compare as equal are the same
abbrev pub is_equal : Ordering → Bool
is_equal Less = false
is_equal Equal = true
is_equal Greater = false

pub both_equal : (r s : Ordering) → ordering_then r s ≡ Equal → (r ≡ Equal) × (s ≡ Equal)
both_equal Less s h = cc
both_equal Equal s h = (refl, h)
both_equal Greater s h = cc

pub same_number : (m n : ℕ) → nat_cmp m n ≡ Equal → m ≡ n
same_number m n h = by_ranked (m < n) (m ≡ n) (n < m) (nat_cmp m n) (ranked m n (nat_cmp m n) refl)
    (λ e _. cc) (λ _ same. same) (λ e _. cc)
