-- The laws of an insertion into a well-formed queue, and of a promotion and a purge in one.
use Rattle.std.proofs.Common.{◌≡◌, ℕ, ◌+◌, ◌≤◌, ◌<◌, arith, length, nat_eq, subst, sym, Bool, true}
use Rattle.std.specs.Prelude.{Some, None, IsSome}
use Rattle.rw_ripq.proofs.Basics.{of_some}
use Rattle.rw_blocks.specs.Loose.{IsLoose, IsWellFormedQueue}
use Rattle.rw_blocks.specs.State.{QueueState, row_at, row_or}
use Rattle.rw_blocks.specs.declared.Place.{Place}
use Rattle.rw_ripq.specs.Record.{IsInsertable}
use Rattle.rw_ripq.proofs.Found.{target-there}
use Rattle.rw_ripq.proofs.Leaving.{insert-leaves}
use Rattle.rw_ripq.proofs.Promotes.{promote-home, promote-order, promote-others, promote-place, promote-stays}
use Rattle.rw_ripq.proofs.Purges.{purge-gone, purge-order, purge-others, purge-reclaims, purge_by-shape}
use Rattle.rw_ripq.proofs.Serials.{total-room}
use Rattle.rw_ripq.proofs.Shapes.{insert-shape, promote-shape}
use Rattle.rw_ripq.proofs.Sizes.{insert-adds, insert-rows, insert-sizes}
use Rattle.rw_ripq.proofs.Tails.{insert-order, insert-tail}
use Rattle.rw_ripq.proofs.WellFormed.{insert-well_formed, promote-well_formed, purge_by-well_formed}
use Rattle.rw_ripq.specs.Insert.{insert, insert_at}
use Rattle.rw_ripq.specs.Laws.{AddsOnly, IsReclaimed, KeepsHome, KeepsOthers, KeepsSizes, LeavesWithBlock}
use Rattle.rw_ripq.specs.Levels.{hit_level, hit_target, target}
use Rattle.rw_ripq.specs.Order.{KeepsOrder, LeavesFromTail}
use Rattle.rw_ripq.specs.Promote.{is_active_in, promote, promote_to}
use Rattle.rw_ripq.specs.Purge.{purge_by}
use Rattle.rw_ripq.specs.Work.{Work}
use Rattle.rw_ripq.specs.declared.Policy.{Policy}

-- ---- insertion
-- a well-formed queue has room for one more object
pub insertable : (q : QueueState) (o z : ℕ) → IsWellFormedQueue q → row_at q o ≡ None → 1 ≤ z → z ≤ q.shape.block → IsInsertable q o z
insertable q o z well new some small =
    record {
      loose = well.loose;
      new = new;
      some = some;
      small = small;
      few = omega (arith, small, total-room q well.loose well.loose.shaped well.few_devices);
    }

pub record InsertLaws (old : QueueState) (o z : ℕ) (w : Work) : Type 0 where
  pub well_formed : IsWellFormedQueue w.queue
  pub shape : w.queue.shape ≡ old.shape
  pub sizes : KeepsSizes old w.queue
  pub adds : AddsOnly old o z w.queue
  pub rows : length w.queue.rows + w.tally.evicted ≡ length old.rows + 1
  pub order : KeepsOrder old w.queue
  pub leaves : LeavesWithBlock old w.queue
  pub tail : LeavesFromTail old w.queue

pub insert_at-laws : (q : QueueState) (o z i : ℕ) → IsWellFormedQueue q → row_at q o ≡ None → 1 ≤ z → z ≤ q.shape.block → i < length q.sections → InsertLaws q o z (insert_at q o z i)
insert_at-laws q o z i well new some small within =
    let c : IsInsertable q o z = insertable q o z well new some small in
    record {
      well_formed = insert-well_formed q o z i well c within;
      shape = insert-shape q o z i c within;
      sizes = insert-sizes q o z i c within;
      adds = insert-adds q o z i c within;
      rows = insert-rows q o z i c within;
      order = insert-order q o z i c within;
      leaves = insert-leaves q o z i c within;
      tail = insert-tail q o z i c within;
    }

pub insert-laws : (p : Policy) (q : QueueState) (o z l : ℕ) → IsWellFormedQueue q → row_at q o ≡ None → 1 ≤ z → z ≤ q.shape.block → InsertLaws q o z (insert p q o z l)
insert-laws p q o z l well new some small =
    insert_at-laws q o z (target p q l) well new some small (target-there p q l well.loose.some_section)

-- ---- promotion
pub record PromoteLaws (old : QueueState) (o : ℕ) (now : QueueState) : Type 0 where
  pub well_formed : IsWellFormedQueue now
  pub shape : now.shape ≡ old.shape
  pub home : KeepsHome old o now
  pub others : KeepsOthers old o now
  pub order : KeepsOrder old now
  pub leaves : LeavesWithBlock old now
  pub tail : LeavesFromTail old now

pub promote_to-laws : (q : QueueState) (o i : ℕ) (r : Place) → IsWellFormedQueue q → row_at q o ≡ Some r → i < length q.sections → PromoteLaws q o (promote_to q o i)
promote_to-laws q o i r well is within =
    record {
      well_formed = promote-well_formed q o i r well within is;
      shape = promote-shape q o i;
      home = promote-home q o i;
      others = promote-others q o i;
      order = promote-order q o i r well.loose within is;
      leaves = λ k s there none. absurd (promote-stays q o i k s there none);
      tail = λ k c s there sealed behind none now. promote-stays q o i k s there none;
    }

pub promote-laws : (p : Policy) (q : QueueState) (o : ℕ) (r : Place) → IsWellFormedQueue q → row_at q o ≡ Some r → PromoteLaws q o (promote p q o)
promote-laws p q o r well is =
    promote_to-laws q o (hit_target p q o) r well is (target-there p q (hit_level p q o) well.loose.some_section)

-- ---- purge
pub record PurgeLaws (old : QueueState) (o : ℕ) (now : QueueState) : Type 0 where
  pub well_formed : IsWellFormedQueue now
  pub shape : now.shape ≡ old.shape
  pub gone : row_at now o ≡ None
  pub others : KeepsOthers old o now
  pub order : KeepsOrder old now

pub purge-laws : (t : Bool) (q : QueueState) (o : ℕ) (r : Place) → IsWellFormedQueue q → row_at q o ≡ Some r → PurgeLaws q o (purge_by t q o)
purge-laws t q o r well is =
    record {
      well_formed = purge_by-well_formed t q o r well is;
      shape = purge_by-shape t q o;
      gone = purge-gone t q o well.loose;
      others = purge-others t q o;
      order = purge-order t q o well.loose;
    }

-- ---- what the code makes
pub insertion : (p : Policy) (q : QueueState) (o z l i : ℕ) (w : Work) → IsWellFormedQueue q → row_at q o ≡ None → 1 ≤ z → z ≤ q.shape.block → w ≡ insert_at q o z i → i ≡ target p q l → InsertLaws q o z w
insertion p q o z l i w well new some small made at =
    rw (made, at) (insert-laws p q o z l well new some small)

pub promotion : (p : Policy) (q v : QueueState) (o i : ℕ) → IsWellFormedQueue q → IsSome (row_at q o) → v ≡ promote_to q o i → i ≡ hit_target p q o → PromoteLaws q o v
promotion p q v o i well resident made at =
    let row = of_some (row_at q o) resident in
    rw (made, at) (promote-laws p q o row.0 well row.1)

pub promotion-changed : (q v : QueueState) (o i : ℕ) → IsLoose q → i < length q.sections → IsSome (row_at q o) → v ≡ promote_to q o i → nat_eq (row_or v o).place (row_or q o).place ≡ is_active_in q (row_or q o).place i
promotion-changed q v o i loose within resident made =
    let row = of_some (row_at q o) resident in
    rw made (promote-place q o i row.0 loose within row.1)

pub purged : (t : Bool) (q v : QueueState) (o : ℕ) → IsWellFormedQueue q → IsSome (row_at q o) → v ≡ purge_by t q o → PurgeLaws q o v
purged t q v o well resident made =
    let row = of_some (row_at q o) resident in
    rw made (purge-laws t q o row.0 well row.1)

pub reclaimed : (q v : QueueState) (o : ℕ) → IsWellFormedQueue q → IsSome (row_at q o) → v ≡ purge_by true q o → IsReclaimed q (row_or q o).home v
reclaimed q v o well resident made =
    let row = of_some (row_at q o) resident in
    subst (IsReclaimed q (row_or q o).home) (sym made) (purge-reclaims q o row.0 well.loose row.1)
