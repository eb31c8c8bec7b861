-- An object that fits a block is inserted, and one that does not passes by, where anything is stored.
use Rattle.std.proofs.Common.{◌≡◌, ℕ, ◌≤◌, ◌<◌, true, false, refl, ap, ◌∙◌, arith}
use Rattle.std.specs.Prelude.{nat_lt, ◌≢◌}
use Rattle.std.proofs.lemmas.Bool.Decides.{nat_tests}
use Rattle.rw_blocks.specs.State.{QueueState}
use Rattle.rw_ripq.specs.declared.Policy.{Policy}
use Rattle.rw_ripq.specs.declared.Policy.TheVariants.{Off, Lru, Slru}
use Rattle.rw_ripq.specs.Insert.{insert}
use Rattle.rw_ripq.specs.Promote.{promote}
use Rattle.rw_photo.specs.declared.counters.Counters.{Counters}
use Rattle.rw_photo.specs.Cache.{Cache}
use Rattle.rw_photo.specs.Counts.{one_bypassed, one_hit, sum_of}
use Rattle.rw_photo.specs.Deeds.{once_made}
use Rattle.rw_photo.specs.Storing.{hit, insertion, is_moved, store}
use Rattle.rw_photo.specs.Lawful.{placed}

stored-placed : (k : Policy) (q : QueueState) (o z : ℕ) → k ≢ Off → store k q o z ≡ placed k q o z
stored-placed Off q o z stores = absurd (stores refl)
stored-placed Lru q o z stores = refl
stored-placed (Slru levels) q o z stores = refl

pub stored-small : (k : Policy) (q : QueueState) (o z : ℕ) → k ≢ Off → z ≤ q.shape.block → store k q o z ≡ insertion (insert k q o z 1) z
stored-small k q o z stores small =
    let fits : nat_lt q.shape.block z ≡ false = grind (arith, nat_tests) in
    rw (stored-placed k q o z stores, fits) refl

pub stored-large : (k : Policy) (q : QueueState) (o z : ℕ) → k ≢ Off → q.shape.block < z → store k q o z ≡ record { queue = q; counts = one_bypassed }
stored-large k q o z stores large =
    let over : nat_lt q.shape.block z ≡ true = grind (arith, nat_tests) in
    rw (stored-placed k q o z stores, over) refl

pub ruleset store_laws = (stored-small, stored-large)

-- a hit, whose queue and counters are known
hit-parts : (was : Cache) (policy : Policy) (o z : ℕ)
    → record was { queue = promote policy was.queue o; counters = sum_of was.counters (one_hit (is_moved was.queue (promote policy was.queue o) o) z) } ≡ once_made was (hit policy was.queue o z)
hit-parts was policy o z = refl

pub hit-made : (was now : Cache) (policy : Policy) (o z : ℕ) (q : QueueState) (k : Counters) → was ≡ now → q ≡ promote policy was.queue o
    → k ≡ sum_of was.counters (one_hit (is_moved was.queue (promote policy was.queue o) o) z)
    → record was { queue = q; counters = k } ≡ once_made now (hit policy now.queue o z)
hit-made was now policy o z q k same queue counters =
    ap (λ (x : QueueState). record was { queue = x; counters = k }) queue
    ∙ ap (λ (n : Counters). record was { queue = promote policy was.queue o; counters = n }) counters
    ∙ hit-parts was policy o z
    ∙ ap (λ (v : Cache). once_made v (hit policy v.queue o z)) same
