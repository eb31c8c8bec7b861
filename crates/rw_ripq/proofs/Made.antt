-- What the code of an operation has made, as the definitions say it.
use Rattle.std.proofs.Common.{◌≡◌, ℕ, ◌+◌, ◌≤◌, ◌<◌, ◌^◌, refl, sym, ap, subst, ◌∙◌, arith, length, nat_eq, zero, suc}
use Rattle.std.specs.Prelude.{Some, nat_lt, not}
use Rattle.std.proofs.lemmas.Bool.{ne_eqb, lt-ltb}
use Rattle.rw_blocks.specs.declared.Kind.TheVariants.{Device, Virtual}
use Rattle.rw_blocks.specs.declared.Place.{Place}
use Rattle.rw_blocks.specs.State.{QueueState, row_at, section_at}
use Rattle.rw_blocks.specs.Sums.{bytes_held}
use Rattle.rw_blocks.specs.Loose.{IsLoose}
use Rattle.rw_blocks.specs.Primitives.{after_add, after_merge}
use Rattle.rw_ripq.specs.declared.Tally.{Tally}
use Rattle.rw_ripq.specs.Work.{Work, work_of, one_if, no_tally}
use Rattle.rw_ripq.specs.Put.{is_room, with_room}
use Rattle.rw_ripq.specs.Adjust.{merge, is_written}
use Rattle.rw_ripq.specs.Record.{HasHeadroom, IsInsertable}
use Rattle.rw_ripq.proofs.Rooms.{fits-with_room, shape-with_room}
use Rattle.rw_ripq.proofs.Folds.{next-if}
use Rattle.rw_ripq.proofs.Serials.{displaced-few}
use Rattle.rw_ripq.proofs.Moves.{row-small}

-- ---- an object is moved
pub replace-fits : (q : QueueState) (o i : ℕ) (r : Place) → IsLoose q → i < length q.sections → row_at q o ≡ Some r
    → bytes_held Virtual (with_room q Virtual i r.size) (section_at (with_room q Virtual i r.size) i).active_virtual + r.size ≤ (with_room q Virtual i r.size).shape.block
replace-fits q o i r loose within is = rw shape-with_room (fits-with_room q Virtual i r.size loose within (row-small q o r loose is))

-- ---- two sections are merged
written-test : (n : ℕ) → nat_lt 0 n ≡ not (nat_eq n 0)
written-test zero = refl
written-test (suc n) = lt-ltb 0 (suc n) (omega arith) ∙ sym (ap not (ne_eqb (suc n) 0 (λ e. omega arith)))

pub merge-made : (w : Work) (i n : ℕ) (q' : QueueState) (t' : Tally) → q' ≡ after_merge w.queue i → n ≡ bytes_held Device w.queue (section_at w.queue (i + 1)).active_device
    → t' ≡ record w.tally { merges = w.tally.merges + 1; writes = w.tally.writes + one_if (nat_lt 0 n) } → work_of q' t' ≡ merge w i
merge-made w i n q' t' made held counted =
    let test : nat_lt 0 n ≡ is_written w.queue i = written-test n ∙ ap (λ n. not (nat_eq n 0)) held in
    rw (made, counted) (ap (λ t. work_of (after_merge w.queue i) (record w.tally { merges = w.tally.merges + 1; writes = w.tally.writes + one_if t })) test)

-- ---- the put of a new object
pub put-fits : (q q1 : QueueState) (o z i : ℕ) → IsInsertable q o z → i < length q.sections → q1 ≡ with_room q Device i z
    → bytes_held Device q1 (section_at q1 i).active_device + z ≤ q1.shape.block
put-fits q q1 o z i c within made =
    subst (λ w. bytes_held Device w (section_at w i).active_device + z ≤ w.shape.block) (sym made) (rw shape-with_room (fits-with_room q Device i z c.loose within c.small))

pub put-room : (q q1 q' : QueueState) (t : Tally) (o z i : ℕ) → IsLoose q' → q1 ≡ with_room q Device i z → q' ≡ after_add q1 o z i → q.next < 2 ^ 62 → t ≡ no_tally
    → HasHeadroom (work_of q' (record t { writes = t.writes + 1 }))
put-room q q1 q' t o z i loose room put fresh none =
    let small = displaced-few q' loose in
    let next : q'.next ≡ (with_room q Device i z).next = ap (λ q. q.next) put ∙ ap (λ q. q.next) room in
    let most : (with_room q Device i z).next ≤ q.next + 1 = next-if (is_room q Device i z) q i in
    let evicted : t.evicted ≡ 0 = ap (λ t. t.evicted) none in
    let reinserted : t.reinserted ≡ 0 = ap (λ t. t.reinserted) none in
    let writes : t.writes ≡ 0 = ap (λ t. t.writes) none in
    let merges : t.merges ≡ 0 = ap (λ t. t.merges) none in
    let bytes = loose.within in
    record {
      serials = omega arith;
      evicted = omega arith;
      reinserted = omega arith;
      writes = omega arith;
      merges = omega arith;
    }
