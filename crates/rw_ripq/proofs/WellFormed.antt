-- An insertion, a promotion and a purge leave a well-formed queue.
use Rattle.std.proofs.Common.{◌≡◌, ℕ, ◌+◌, ◌/◌, ◌≤◌, ◌<◌, refl, sym, ap, subst, ◌∙◌, arith, Bool, true, false, length, inl, inr}
use Rattle.std.specs.Prelude.{Some, unwrap_or}
use Rattle.rw_blocks.proofs.Cited.{IsLoose-after_remove, of_row}
use Rattle.rw_blocks.specs.Loose.{IsLoose, IsPlaced, IsSized, IsWellFormedQueue, count, is_sealed_virtual}
use Rattle.rw_blocks.specs.Primitives.{after_remove, after_replace}
use Rattle.rw_blocks.specs.State.{ShapeState, QueueState, no_place, row_at, row_or, section_at}
use Rattle.rw_blocks.specs.Sums.{rows_placed}
use Rattle.rw_blocks.specs.declared.Kind.TheVariants.{Device, Virtual}
use Rattle.rw_blocks.specs.declared.Place.{Place}
use Rattle.rw_ripq.proofs.Abandoned.{IsLoose-reclaimed, abandoned-there, devices-reclaimed}
use Rattle.rw_ripq.proofs.Cases.{moved_unless, reinserted_from, without_block_if}
use Rattle.rw_ripq.specs.Sealed.{is_abandoned, is_emptied, is_sealed, section_with}
use Rattle.rw_ripq.proofs.Adjusts.{KeepsAll, insert-good, put_row}
use Rattle.rw_ripq.specs.Record.{IsInsertable}
use Rattle.rw_ripq.proofs.Devices.{devices-cleared, insert-devices, promote-devices}
use Rattle.rw_ripq.proofs.Folds.{reinsert-row}
use Rattle.rw_ripq.proofs.Promotes.{IsLoose-moved, IsLoose-moved_unless}
use Rattle.rw_ripq.proofs.Reputs.{IsLoose-cleared, IsLoose-put_again, IsLoose-with_room, row-with_room, section-there}
use Rattle.rw_ripq.proofs.Shapes.{shape-clear, shape-moved}
use Rattle.rw_ripq.proofs.Turns.{sealed_count-there}
use Rattle.rw_ripq.proofs.Used.{Or, UsedBut, placed-length, used-added, used-after_merge, used-after_remove, used-after_split, used-cleared, used-device_room, used-virtual_room, used-without_block, used-written, virtual-some, virtual-there}
use Rattle.rw_ripq.proofs.Walks.{KeepsBy}
use Rattle.rw_ripq.specs.Insert.{insert_at}
use Rattle.rw_ripq.specs.Promote.{is_active_in, promote_to}
use Rattle.rw_ripq.specs.Purge.{purge, purge_by}
use Rattle.rw_ripq.specs.Put.{put_again, put_new, with_room}
use Rattle.rw_ripq.specs.Work.{Work}

-- no exception
abbrev None_of : ℕ → Type 0
None_of c = ⊥

abbrev IsUsed : Work → Type 0
IsUsed w = UsedBut None_of w.queue

-- a victim's rows leave, or go to other blocks
abbrev IsUsedBut : ℕ → Work → Type 0
IsUsedBut b w = UsedBut (Or None_of b) w.queue

weaken : (P : ℕ → Type 0) (q : QueueState) (b : ℕ) → UsedBut P q → UsedBut (Or P b) q
weaken P q b used c some = elim (used c some) [ inl p ↦ inl (inl p) | inr h ↦ inr h ]

-- ---- a row is put again
used-put_again : (P : ℕ → Type 0) (q : QueueState) (o i : ℕ) (r : Place) → IsLoose q → i < length q.sections → row_at q o ≡ Some r → UsedBut P q → UsedBut (Or P r.place) (put_again q o i)
used-put_again P q o i r loose within is used =
    let z : ℕ = (row_or q o).size in
    let w : QueueState = with_room q Device i z in
    used-written P w (put_again q o i) o r _ (IsLoose-with_room q Device i z loose within) (row-with_room q Device i z o ∙ is) refl refl (used-device_room P q i z within used)

used-reinserted_from : (P : ℕ → Type 0) (q : QueueState) (o p : ℕ) (r : Place) → IsLoose q → row_at q o ≡ Some r → p ≡ r.place → (r.place ≡ r.home → ⊥) → UsedBut P q → UsedBut P (reinserted_from q o p)
used-reinserted_from P q o p r loose is at apart used =
    let there : count Virtual q r.place ≡ 1 = elim (of_row q o r (IsPlaced q) loose.places is) [ inl e ↦ absurd (apart e) | inr c ↦ c ] in
    let within : section_with q p < length q.sections = omega (arith, ap (section_with q) at, section-there Virtual q r.place there) in
    let q1 : QueueState = put_again q o (section_with q p) in
    used-cleared P q1 p (IsLoose-put_again q o (section_with q p) r loose within is)
    (subst (λ y. UsedBut (Or P y) q1) (sym at) (used-put_again P q o (section_with q p) r loose within is used))

keeps-used : KeepsBy IsUsed IsUsedBut
keeps-used =
    record {
      begins = λ w e loose last g. weaken None_of w.queue e.0 g;
      leaves = λ w e o r loose last is at g. used-after_remove None_of w.queue o e.0 r is at g;
      reputs = λ w b o r os v homed is home g.
          (let c = reinsert-row w.queue b o r os v homed is home in
          used-reinserted_from (Or None_of b) w.queue o (row_or w.queue o).place r v.loose is (ap (λ m. (unwrap_or m no_place).place) is) c.apart g);
      outs = λ w b loose some free g. used-without_block None_of w.queue b loose (sealed_count-there w.queue b some) g;
    }

all-used : KeepsAll IsUsed IsUsedBut
all-used =
    record {
      small = keeps-used;
      writes = λ w g. g;
      merges = λ w i loose there g. used-after_merge None_of w.queue i there g;
      splits = λ w i loose there few g. used-after_split None_of w.queue i ((length (section_at w.queue i).sealed + 1) / 2) there g;
    }

-- ---- from a well-formed queue and to one
used-from : (q : QueueState) → ((b : ℕ) → is_sealed_virtual q b ≡ true → 1 ≤ length (rows_placed q b)) → UsedBut None_of q
used-from q used c some = inr (omega (arith, used c (virtual-there q c some), placed-length q c))

used-to : (q : QueueState) → UsedBut None_of q → (b : ℕ) → is_sealed_virtual q b ≡ true → 1 ≤ length (rows_placed q b)
used-to q used b there = elim (used b (virtual-some q b there)) [
  | inl bad ↦ absurd bad
  | inr h ↦ omega (arith, h, placed-length q b)
]

start-used : (q : QueueState) (o z i : ℕ) → IsInsertable q o z → i < length q.sections → UsedBut None_of q → UsedBut None_of (put_new q o z i)
start-used q o z i c within used =
    let w : QueueState = with_room q Device i z in
    used-added None_of w (put_new q o z i) o (put_row w z i) (IsLoose-with_room q Device i z c.loose within) (row-with_room q Device i z o ∙ c.new) refl refl (used-device_room None_of q i z within used)

pub insert-well_formed : (q : QueueState) (o z i : ℕ) → IsWellFormedQueue q → IsInsertable q o z → i < length q.sections → IsWellFormedQueue (insert_at q o z i).queue
insert-well_formed q o z i well c within =
    let g = insert-good all-used q o z i c within (start-used q o z i c within (used-from q well.used)) in
    record {
      loose = g.loose;
      used = used-to (insert_at q o z i).queue g.good;
      few_devices = insert-devices q o z i c within well.few_devices;
    }

-- ---- a promotion
used-moved : (t : Bool) (q : QueueState) (o i : ℕ) (r : Place) → IsLoose q → i < length q.sections → row_at q o ≡ Some r → UsedBut None_of q → UsedBut None_of (moved_unless t q o i)
used-moved true q o i r loose within is used c some = used c some
used-moved false q o i r loose within is used c some =
    let z : ℕ = (row_or q o).size in
    let p : ℕ = (row_or q o).place in
    let w : QueueState = with_room q Virtual i z in
    let q1 : QueueState = after_replace w o i in
    let size : z ≡ r.size = rw is refl in
    let at : r.place ≡ p = rw is refl in
    let small : r.size ≤ q.shape.block = (of_row q o r (IsSized q) loose.sizes is).1 in
    let used1 : UsedBut (Or None_of r.place) q1 =
    used-written None_of w q1 o r _ (IsLoose-with_room q Virtual i z loose within) (row-with_room q Virtual i z o ∙ is) refl refl (used-virtual_room None_of q i z within (omega (arith, size, small)) used) in
    used-cleared None_of q1 p (IsLoose-moved q o i r loose within is) (subst (λ y. UsedBut (Or None_of y) q1) at used1) c some

pub promote-well_formed : (q : QueueState) (o i : ℕ) (r : Place) → IsWellFormedQueue q → i < length q.sections → row_at q o ≡ Some r → IsWellFormedQueue (promote_to q o i)
promote-well_formed q o i r well within is =
    let t : Bool = is_active_in q (row_or q o).place i in
    record {
      loose = IsLoose-moved_unless t q o i r well.loose within is;
      used = used-to (promote_to q o i) (used-moved t q o i r well.loose within is (used-from q well.used));
      few_devices = omega (arith, well.few_devices, promote-devices q o i within, ap (λ (s : ShapeState). s.blocks) (shape-moved t q o i));
    }

-- ---- a purge
pub purge-well_formed : (q : QueueState) (o : ℕ) (r : Place) → IsWellFormedQueue q → row_at q o ≡ Some r → IsWellFormedQueue (purge q o)
purge-well_formed q o r well is =
    let p : ℕ = (row_or q o).place in
    let q1 : QueueState = after_remove q o in
    let at : r.place ≡ p = rw is refl in
    let loose : IsLoose q1 = IsLoose-after_remove q o well.loose in
    let used : UsedBut (Or None_of p) q1 = used-after_remove None_of q o p r is at (weaken None_of q p (used-from q well.used)) in
    record {
      loose = IsLoose-cleared q1 p loose;
      used = used-to (purge q o) (used-cleared None_of q1 p loose used);
      few_devices = omega (arith, well.few_devices, devices-cleared q1 p, ap (λ (s : ShapeState). s.blocks) (shape-clear (is_emptied q1 p) q1 p));
    }

used-reclaimed : (t : Bool) (q : QueueState) (b : ℕ) → (t ≡ true → is_sealed q b ≡ true) → IsLoose q → UsedBut None_of q → UsedBut None_of (without_block_if t q b)
used-reclaimed true q b there loose used c some = used-without_block None_of q b loose (there refl) (weaken None_of q b used) c some
used-reclaimed false q b there loose used c some = used c some

pub purge_by-well_formed : (t : Bool) (q : QueueState) (o : ℕ) (r : Place) → IsWellFormedQueue q → row_at q o ≡ Some r → IsWellFormedQueue (purge_by t q o)
purge_by-well_formed false q o r well is = purge-well_formed q o r well is
purge_by-well_formed true q o r well is =
    let h : ℕ = (row_or q o).home in
    let q1 : QueueState = purge q o in
    let well1 : IsWellFormedQueue q1 = purge-well_formed q o r well is in
    record {
      loose = IsLoose-reclaimed q1 h well1.loose;
      used = used-to (purge_by true q o) (used-reclaimed (is_abandoned q1 h) q1 h (abandoned-there q1 h) well1.loose (used-from q1 well1.used));
      few_devices = omega (arith, well1.few_devices, devices-reclaimed q1 h, ap (λ (s : ShapeState). s.blocks) (shape-clear (is_abandoned q1 h) q1 h));
    }
