-- The weight of an insertion's trail.
use Rattle.std.proofs.Common.{◌≡◌, ℕ, ◌+◌, ◌*◌, ◌≤◌, ◌<◌, List, [], refl, sym, ap, subst, ◌∙◌, arith, Bool, true, false, length, inl, inr}
use Rattle.std.specs.Prelude.{Option, Some, None, nat_lt, sum_by}
use Rattle.std.specs.Ordering.{nat_cmp}
use Rattle.std.specs.Cmp.{nat_cmp_total}
use Rattle.std.specs.Map.{values_of}
use Rattle.std.specs.BTreeMap.{insert_entry}
use Rattle.std.proofs.lemmas.Bool.{eq-eqb}
use Rattle.std.proofs.lemmas.Map.Entries.{sum_by-insert_entry}
use Rattle.rw_blocks.proofs.Cited.{IsLoose-after_merge}
use Rattle.rw_blocks.specs.Loose.{IsLoose}
use Rattle.rw_blocks.specs.State.{QueueState, row_at}
use Rattle.rw_blocks.specs.declared.Kind.TheVariants.{Device}
use Rattle.rw_blocks.specs.declared.Place.{Place}
use Rattle.rw_ripq.proofs.Cases.{adjust_unless, split_if}
use Rattle.rw_ripq.proofs.Adjusts.{IsGood, IsLoose-put_new, KeepsAll, evict-good, insert-good, put_row, rows-put_new, start, written}
use Rattle.rw_ripq.specs.Record.{IsInsertable}
use Rattle.rw_ripq.proofs.Basics.{some_is}
use Rattle.rw_ripq.proofs.Bounds.{IsWithin, keeps-within}
use Rattle.rw_ripq.proofs.Costs.{IsPaid, absent-top, cost-moved, keeps-paid, look-put}
use Rattle.rw_ripq.proofs.Folds.{next-if}
use Rattle.rw_ripq.proofs.Found.{light_pair-there}
use Rattle.rw_ripq.proofs.Lines.{blocks-gone}
use Rattle.rw_ripq.proofs.Measures.{unlike}
use Rattle.rw_ripq.proofs.Walks.{Keeps, Throughout, evict-keeps, throughout}
use Rattle.rw_ripq.specs.Adjust.{heavy_section, light_pair, merge, merge_at, merge_once, split_at}
use Rattle.rw_ripq.specs.Evict.{displaced_rows, evict}
use Rattle.rw_ripq.specs.Insert.{insert_at}
use Rattle.rw_ripq.specs.Put.{is_room, put_new, with_room}
use Rattle.rw_blocks.specs.declared.Mark.{Mark}
use Rattle.rw_ripq.specs.Weight.{IsShort, Spends, gone_blocks, moved_rows}
use Rattle.rw_ripq.specs.Work.{Work, work_before}

-- ---- the two invariants over a whole insertion
pub all-paid : (old : QueueState) (k : ℕ) → KeepsAll (IsPaid old k) (Throughout (IsPaid old k))
all-paid old k =
    record {
      small = throughout (keeps-paid old k);
      writes = λ w g. record { known = g.known; settled = g.settled; paid = g.paid };
      merges = λ w i loose there g. record { known = g.known; settled = g.settled; paid = g.paid };
      splits = λ w i loose there few g. record { known = g.known; settled = g.settled; paid = g.paid };
    }

pub all-within : (n d : ℕ) → KeepsAll (IsWithin n d) (Throughout (IsWithin n d))
all-within n d =
    record {
      small = throughout (keeps-within n d);
      writes = λ w g. record { serial = g.serial; settled = g.settled };
      merges = λ w i loose there g. record { serial = g.serial; settled = g.settled };
      splits = λ w i loose there few g. record { serial = omega (arith, g.serial); settled = g.settled };
    }

pub start-paid : (q : QueueState) (o z i : ℕ) → IsPaid q o (start q o z i)
start-paid q o z i =
    let new : Place = put_row (with_room q Device i z) z i in
    let q' : QueueState = put_new q o z i in
    let look = look-put q q' o new (rows-put_new q o z i) in
    record {
      known = λ x s h. elim (look x) [ inl e ↦ inl (sym e.0) | inr e ↦ inr (s, sym e.1 ∙ h) ];
      settled = λ x s h. elim (look x) [
        | inl e ↦ (let same : new ≡ s = some_is (sym e.1 ∙ h) in inl (subst (λ y. y.place ≡ y.home) same refl))
        | inr e ↦ inr (s, sym e.1 ∙ h, refl)
      ];
      paid = omega arith;
    }

displaced-put_new : (q : QueueState) (o z i : ℕ) → IsLoose q → displaced_rows (put_new q o z i) ≤ displaced_rows q
displaced-put_new q o z i loose =
    let new : Place = put_row (with_room q Device i z) z i in
    let h = sum_by-insert_entry unlike nat_cmp_total q.rows o new loose.ordered in
    let now : unlike new ≡ 0 = rw (eq-eqb new.home new.home refl) refl in
    let same : displaced_rows (put_new q o z i) ≡ sum_by unlike (values_of (insert_entry nat_cmp q.rows o new)) = ap (λ rs. sum_by unlike (values_of rs)) (rows-put_new q o z i) in
    omega (arith, h, now, same)

pub start-within : (q : QueueState) (o z i : ℕ) → IsLoose q → i < length q.sections → IsWithin (q.next + 1) (displaced_rows q) (start q o z i)
start-within q o z i loose within =
    let n : (put_new q o z i).next ≤ q.next + 1 = next-if (is_room q Device i z) q i in
    record { serial = omega (arith, n); settled = omega (arith, displaced-put_new q o z i loose) }

-- ---- at most one merge and one split
pub record IsCount (m s : ℕ) (w : Work) : Type 0 where
  pub merges : w.tally.merges ≡ m
  pub splits : w.tally.splits ≡ s

pub keeps-count : (m s : ℕ) → Keeps (IsCount m s)
keeps-count m s =
    record {
      leaves = λ w e o r loose last is at g. record { merges = g.merges; splits = g.splits };
      reputs = λ w b o r os v homed is home g. record { merges = g.merges; splits = g.splits };
      outs = λ w b loose some free g. record { merges = g.merges; splits = g.splits };
    }

pub record IsOnce (w : Work) : Type 0 where
  pub merges : w.tally.merges ≤ 1
  pub splits : w.tally.splits ≤ 1

record IsMerged (w : Work) : Type 0 where
  pub merges : w.tally.merges ≤ 1
  pub splits : w.tally.splits ≡ 0

merge_at-count : (o : Option ℕ) (w : Work) → light_pair w.queue ≡ o → IsLoose w.queue → IsCount 0 0 w → IsMerged (merge_at o w)
merge_at-count None w is loose g = record { merges = omega (arith, g.merges); splits = g.splits }
merge_at-count (Some i) w is loose g =
    let there : i + 1 < length w.queue.sections = light_pair-there w.queue i is in
    let c : IsCount 1 0 (evict (merge w i)) = evict-keeps (throughout (keeps-count 1 0)) (merge w i) (IsLoose-after_merge w.queue i loose there) (record { merges = omega (arith, g.merges); splits = g.splits }) in
    record { merges = omega (arith, c.merges); splits = c.splits }

split_at-count : (o : Option ℕ) (w : Work) → IsMerged w → IsOnce (split_at o w)
split_at-count None w g = record { merges = g.merges; splits = omega (arith, g.splits) }
split_at-count (Some i) w g = record { merges = g.merges; splits = omega (arith, g.splits) }

split_if-count : (t : Bool) (w : Work) → IsMerged w → IsOnce (split_if t w)
split_if-count true w g = split_at-count (heavy_section w.queue) w g
split_if-count false w g = record { merges = g.merges; splits = omega (arith, g.splits) }

adjust_unless-count : (t : Bool) (w : Work) → IsLoose w.queue → IsCount 0 0 w → IsOnce (adjust_unless t w)
adjust_unless-count true w loose g = record { merges = omega (arith, g.merges); splits = omega (arith, g.splits) }
adjust_unless-count false w loose g =
    let e : IsGood (IsCount 0 0) (evict (written w)) = evict-good (throughout (keeps-count 0 0)) (written w) (record { loose = loose; good = record { merges = g.merges; splits = g.splits } }) in
    let m : IsMerged (merge_once (evict (written w))) = merge_at-count (light_pair (evict (written w)).queue) (evict (written w)) refl e.loose e.good in
    split_if-count (nat_lt (length (merge_once (evict (written w))).queue.sections) (merge_once (evict (written w))).queue.shape.sections) (merge_once (evict (written w))) m

pub insert-once : (q : QueueState) (o z i : ℕ) → IsInsertable q o z → i < length q.sections → IsOnce (insert_at q o z i)
insert-once q o z i c within =
    adjust_unless-count (is_room q Device i z) (start q o z i)
    (IsLoose-put_new q o z i c within) (record { merges = refl; splits = refl })

-- ---- the weight: a trail of n marks that began empty, where the put itself adds one that nothing else counts
pub insert-weight : (q : QueueState) (o z i n : ℕ) → IsInsertable q o z → i < length q.sections → Spends 1 (work_before q) n (insert_at q o z i) → n ≤ 8 + 4 * moved_rows q (insert_at q o z i).queue + gone_blocks q (insert_at q o z i).queue
insert-weight q o z i n c within spends =
    let w : Work = insert_at q o z i in
    let a : IsPaid q o w = (insert-good (all-paid q o) q o z i c within (start-paid q o z i)).good in
    let b : IsWithin (q.next + 1) (displaced_rows q) w = (insert-good (all-within (q.next + 1) (displaced_rows q)) q o z i c within (start-within q o z i c.loose within)).good in
    let once : IsOnce w = insert-once q o z i c within in
    omega (arith, spends, a.paid, b.serial, once.merges, once.splits, blocks-gone q w.queue c.loose, cost-moved q w.queue, absent-top (row_at w.queue o))

-- the same of a trail that the code made
pub insert-short : (q : QueueState) (o z i : ℕ) (ms ns : List Mark) (w : Work) → IsInsertable q o z → i < length q.sections → ms ≡ [] → w ≡ insert_at q o z i
    → Spends (length ms + 1) (work_before q) (length ns) w → IsShort ns q w.queue
insert-short q o z i ms ns w c within none made spends =
    let first : length ms ≡ 0 = ap length none in
    rw made (insert-weight q o z i (length ns) c within (subst (λ v. Spends 1 (work_before q) (length ns) v) made (omega (arith, spends, first))))
