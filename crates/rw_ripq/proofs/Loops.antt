-- One turn of the eviction's loops.
use Rattle.std.proofs.Common.{◌≡◌, ℕ, ◌+◌, ◌<◌, List, ◌∷◌, refl, sym, subst, arith, true, nat_eq}
use Rattle.std.specs.Prelude.{Some, None}
use Rattle.std.proofs.lemmas.Bool.{ltb-true}
use Rattle.rw_blocks.specs.State.{QueueState, row_at}
use Rattle.rw_blocks.specs.Loose.{IsLoose}
use Rattle.rw_blocks.specs.Primitives.{after_remove}
use Rattle.rw_blocks.specs.Questions.{last_block}
use Rattle.rw_blocks.proofs.Cited.{IsLoose-after_remove}
use Rattle.rw_ripq.specs.Work.{Work}
use Rattle.rw_ripq.specs.Evict.{is_over, evict, evict_last, leave, objects_placed}
use Rattle.rw_ripq.specs.Record.{HasHeadroom}
use Rattle.rw_blocks.specs.declared.Place.{Place}
use Rattle.rw_ripq.proofs.Evictions.{evict-turn}
use Rattle.rw_ripq.proofs.Falls.{others-after_remove, turn-falls, last-none}
use Rattle.rw_ripq.proofs.Turns.{first-there}
use Rattle.rw_ripq.proofs.Folds.{measure}
use Rattle.rw_ripq.proofs.Walks.{last-keeps, leave-more, throughout}
use Rattle.rw_ripq.proofs.Headroom.{keeps-room, room-left}

-- ---- a row leaves: the least one of those whose place the block is
pub record LeaveStep (b o : ℕ) (os : List ℕ) (w v : Work) : Type 0 where
  pub loose : IsLoose v.queue
  pub rest : objects_placed v.queue b ≡ os
  pub same : leave v os ≡ leave w (o ∷ os)
  pub room : HasHeadroom v

pub first-placed : (q : QueueState) (b o : ℕ) (os : List ℕ) → IsLoose q → objects_placed q b ≡ o ∷ os → (r : Place) × (row_at q o ≡ Some r)
first-placed q b o os loose is = let f = first-there (λ e. nat_eq e.1.place b) q.rows o os loose.ordered is in (f.0, f.1)

pub leave-made : (w : Work) (b o : ℕ) (os : List ℕ) (q' : QueueState) → IsLoose w.queue → HasHeadroom w → objects_placed w.queue b ≡ o ∷ os → q' ≡ after_remove w.queue o
    → LeaveStep b o os w (record { queue = q'; tally = record w.tally { evicted = w.tally.evicted + 1 } })
leave-made w b o os q' loose room is made =
    let row = first-placed w.queue b o os loose is in
    subst (λ q. LeaveStep b o os w (record { queue = q; tally = record w.tally { evicted = w.tally.evicted + 1 } })) (sym made)
    (record {
      loose = IsLoose-after_remove w.queue o loose;
      rest = others-after_remove (λ e. nat_eq e.1.place b) w.queue.rows o os loose.ordered is;
      same = leave-more w o os;
      room = room-left w o row.0 loose row.1 room;
    })

-- ---- the last sealed block is evicted
pub record TurnStep (w v : Work) : Type 0 where
  pub loose : IsLoose v.queue
  pub lower : measure v.queue < measure w.queue
  pub same : evict v ≡ evict w
  pub room : HasHeadroom v

pub turn-made : (w v : Work) → IsLoose w.queue → HasHeadroom w → is_over w.queue ≡ true → v ≡ evict_last w → TurnStep w v
turn-made w v loose room over made =
    subst (λ v. TurnStep w v) (sym made)
    (record {
      loose = turn-falls.good w loose over;
      lower = turn-falls.lower w loose over;
      same = sym (evict-turn (λ v. IsLoose v.queue) turn-falls w loose over);
      room = last-keeps (throughout keeps-room) (last_block w.queue) w refl loose room;
    })

-- where too many device blocks are sealed there is a last sealed block
pub over-some : (q : QueueState) → is_over q ≡ true → last_block q ≡ None → ⊥
over-some q over none = omega (arith, (last-none None q.sections none).1, ltb-true q.shape.blocks _ over)
