-- The laws that the traits `Model` and `Lookahead` ask of the caches: valid events are in their
-- ranges, a step keeps a cache well formed, sends are valid, later, and as far ahead as is said, and
-- bodies that compare as equal are the same. They stand in specs/ with their proofs since the
-- implementation hands them to the traits as ghost members, which see no proofs/.
use Rattle.std.specs.Prelude.{◌≡◌, ◌≤◌, ◌+◌, ◌^◌, true, ◌&&◌, nat_lt, All}
use Rattle.std.specs.declared.cmp.Ordering.TheVariants.{Equal}
use Rattle.std.specs.Ordering.{nat_cmp, ordering_then}
use Rattle.std.proofs.Common.{ap, arith, sym, true≢false}
use Rattle.std.proofs.lemmas.Bool.Decides.{nat_tests}
use Rattle.std.proofs.lemmas.List.Elements.{All-weaker}
use Rattle.rw_vt.specs.Words.{Process}
use Rattle.rw_vt.specs.declared.event.Event.{Event}
use Rattle.rw_vt.specs.Valid.{IsInRange, IsSentBy}
use Rattle.rw_photo.specs.declared.body.Body.{Body}
use Rattle.rw_photo.specs.declared.body.Body.TheVariants.{Request, Miss, Fill, Purge, Drop, Clear}
use Rattle.rw_photo.specs.contracts.body.BodyOrd.TheImpl as order
use Rattle.rw_photo.specs.declared.config.Config.{Config}
use Rattle.rw_photo.specs.Cache.{Cache, IsWellFormed}
use Rattle.rw_photo.specs.Events.{Happening, happening, is_valid, lookahead_of, may_happen, object_of, step}
use Rattle.rw_photo.specs.Lawful.{Follows, IsFine, added-counts, ascending-with, both, both_equal, early, event-fine, few-with, is_equal, same_number}

pub valid_ranges : (c : Config) (e : Event Body) → is_valid c e ≡ true
    → IsInRange (c.edges + c.origins) e
valid_ranges c e v =
    let numbers = nat_lt e.source (2 ^ 32) && nat_lt e.number (2 ^ 64) in
    let parts = both numbers (may_happen c e.time e.to e.body) v in
    let r = early c e.time e.to e.body parts.1 in
    record {
      time = r.0;
      source = grind (arith, nat_tests);
      number = grind (arith, nat_tests);
      to = r.1;
    }

pub step_keeps : (c : Config) (p : Process) (s : Cache) (e : Event Body) → IsWellFormed c p s
    → is_valid c e ≡ true → e.to ≡ p → IsWellFormed c p (step c p s e).0
step_keeps c p s e w v at =
    let h : Happening = happening c p s e.time e.body in
    let fine : IsFine c p e.time h = event-fine c p s e w v at in
    record {
      queue = fine.queue.well_formed;
      shape = fine.queue.shape;
      empty = fine.queue.empty;
      ascending = ascending-with s.awaited (object_of e.body) h.waiting w.ascending;
      waiting = few-with s.awaited (object_of e.body) h.waiting w.waiting fine.waiting;
      sends = omega arith;
      counters = added-counts s.counters h.counts;
    }

pub step_future : (c : Config) (p : Process) (s : Cache) (e : Event Body) → IsWellFormed c p s
    → is_valid c e ≡ true → e.to ≡ p
    → All (λ f. IsSentBy p e f × (is_valid c f ≡ true)) (step c p s e).1
step_future c p s e w v at =
    All-weaker (Follows c p e.time) (λ f. IsSentBy p e f × (is_valid c f ≡ true))
    (λ f h. (record { source = h.0; later = h.1 }, h.2))
    (step c p s e).1
    (event-fine c p s e w v at).follow

pub step_ahead : (c : Config) (p : Process) (s : Cache) (e : Event Body) → IsWellFormed c p s
    → is_valid c e ≡ true → e.to ≡ p
    → All (λ f. e.time + lookahead_of c ≤ f.time) (step c p s e).1
step_ahead c p s e w v at =
    All-weaker (Follows c p e.time) (λ f. e.time + lookahead_of c ≤ f.time) (λ f h. h.3)
    (step c p s e).1
    (event-fine c p s e w v at).follow

pub bodies_same : (a b : Body) → order.ghosts.cmp a b ≡ Equal → a ≡ b
bodies_same (Request a b) (Request c d) h =
    let k : ordering_then (nat_cmp a c) (nat_cmp b d) ≡ Equal = h in
    let p = both_equal (nat_cmp a c) (nat_cmp b d) k in
    let object : a ≡ c = same_number a c p.0 in
    let size : b ≡ d = same_number b d p.1 in
    cc
bodies_same (Miss a b e) (Miss c d f) h =
    let k : ordering_then (nat_cmp a c) (ordering_then (nat_cmp b d) (nat_cmp e f)) ≡ Equal = h in
    let p = both_equal (nat_cmp a c) (ordering_then (nat_cmp b d) (nat_cmp e f)) k in
    let q = both_equal (nat_cmp b d) (nat_cmp e f) p.1 in
    let object : a ≡ c = same_number a c p.0 in
    let size : b ≡ d = same_number b d q.0 in
    let edge : e ≡ f = same_number e f q.1 in
    cc
bodies_same (Fill a b) (Fill c d) h =
    let k : ordering_then (nat_cmp a c) (nat_cmp b d) ≡ Equal = h in
    let p = both_equal (nat_cmp a c) (nat_cmp b d) k in
    let object : a ≡ c = same_number a c p.0 in
    let size : b ≡ d = same_number b d p.1 in
    cc
bodies_same (Purge a) (Purge b) h = let object : a ≡ b = same_number a b h in cc
bodies_same (Drop a b) (Drop c d) h =
    let k : ordering_then (nat_cmp a c) (nat_cmp b d) ≡ Equal = h in
    let p = both_equal (nat_cmp a c) (nat_cmp b d) k in
    let object : a ≡ c = same_number a c p.0 in
    let edge : b ≡ d = same_number b d p.1 in
    cc
bodies_same (Clear a) (Clear b) h = let object : a ≡ b = same_number a b h in cc
bodies_same a b h = absurd (true≢false (sym (ap is_equal h)))
