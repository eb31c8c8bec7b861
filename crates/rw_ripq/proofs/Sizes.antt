-- Rows keep their sizes, no row comes but the object's, and the rows that leave are counted.
use Rattle.std.proofs.Common.{◌≡◌, ℕ, ◌+◌, ◌<◌, List, [], ◌∷◌, refl, sym, ap, subst, ◌∙◌, arith, length, ◌⊎◌, inl, inr}
use Rattle.std.specs.Prelude.{Option, Some, None, sum_by, unwrap_or}
use Rattle.std.specs.Option.{option_map}
use Rattle.std.specs.Ordering.{nat_cmp}
use Rattle.std.specs.Cmp.{nat_cmp_total}
use Rattle.std.specs.Map.{values_of}
use Rattle.std.specs.BTreeMap.{insert_entry, is_at as is_key}
use Rattle.std.proofs.lemmas.List.Sums.{sum_by-cons}
use Rattle.std.proofs.lemmas.Map.Entries.{sum_by-insert_entry, sum_by-remove_entry}
use Rattle.rw_blocks.specs.Loose.{IsLoose}
use Rattle.rw_blocks.specs.Primitives.{after_remove}
use Rattle.rw_blocks.specs.State.{QueueState, row_at}
use Rattle.rw_blocks.specs.declared.Kind.TheVariants.{Device}
use Rattle.rw_blocks.specs.declared.Place.{Place}
use Rattle.rw_ripq.proofs.Adjusts.{KeepsAll, insert-good, put_row, rows-put_new, start}
use Rattle.rw_ripq.specs.Record.{IsInsertable}
use Rattle.rw_ripq.proofs.Basics.{none_some, some_is}
use Rattle.rw_ripq.proofs.Costs.{look-out, look-put}
use Rattle.rw_ripq.proofs.Folds.{reinsert-row}
use Rattle.rw_ripq.proofs.Walks.{Keeps, Throughout, throughout}
use Rattle.rw_ripq.specs.Evict.{reinsert}
use Rattle.rw_ripq.specs.Insert.{insert_at}
use Rattle.rw_ripq.specs.Laws.{AddsOnly, KeepsSizes}
use Rattle.rw_ripq.specs.Put.{put_new, with_room}
use Rattle.rw_ripq.specs.Work.{Work}

-- ---- how many rows there are
abbrev one_each : Place → ℕ
one_each r = 1

ones : (es : List (ℕ × Place)) → sum_by one_each (values_of es) ≡ length es
ones [] = refl
ones (e ∷ es) = omega (arith, sum_by-cons one_each e.1 (values_of es), ones es)

one_less : (q : QueueState) (o : ℕ) (r : Place) → row_at q o ≡ Some r → length (after_remove q o).rows + 1 ≡ length q.rows
one_less q o r is =
    let h = rw is at (sum_by-remove_entry one_each (is_key (nat_cmp o)) q.rows) in
    omega (arith, h, ones q.rows, ones (after_remove q o).rows)

rows_after : (q q' : QueueState) (o : ℕ) (new : Place) (there : Option Place) → IsLoose q → q'.rows ≡ insert_entry nat_cmp q.rows o new → row_at q o ≡ there → length q'.rows + unwrap_or (option_map one_each there) 0 ≡ length q.rows + 1
rows_after q q' o new there loose rows is =
    let long : length q'.rows ≡ length (insert_entry nat_cmp q.rows o new) = ap length rows in
    let h = rw is at (sum_by-insert_entry one_each nat_cmp_total q.rows o new loose.ordered) in
    omega (arith, long, h, ones q.rows, ones (insert_entry nat_cmp q.rows o new))

-- ---- what holds of the work, where the object k of size z is put
record IsSizedAs (old : QueueState) (k z : ℕ) (w : Work) : Type 0 where
  sized : (o : ℕ) (s : Place) → row_at w.queue o ≡ Some s → ((o ≡ k) × (s.size ≡ z)) ⊎ ((r : Place) × (row_at old o ≡ Some r) × (s.size ≡ r.size))
  counted : length w.queue.rows + w.tally.evicted ≡ length old.rows + 1

keeps-sized : (old : QueueState) (k z : ℕ) → Keeps (IsSizedAs old k z)
keeps-sized old k z =
    record {
      leaves = λ w e o r loose last is at g.
          record {
            sized = λ x s h. elim (look-out w.queue o loose x) [ inl f ↦ absurd (none_some (sym f.1 ∙ h)) | inr f ↦ g.sized x s (sym f.1 ∙ h) ];
            counted = omega (arith, g.counted, one_less w.queue o r is);
          };
      reputs = λ w b o r os v homed is home g.
          let c = reinsert-row w.queue b o r os v homed is home in
          let n = rows_after w.queue (reinsert w o).queue o c.new (Some r) v.loose c.rows is in
          record {
            sized = λ x s h. elim (look-put w.queue (reinsert w o).queue o c.new c.rows x) [
              | inl f ↦ (
                  let same : s.size ≡ r.size = sym (ap (λ (p : Place). p.size) (some_is (sym f.1 ∙ h))) ∙ c.size in
                  elim (g.sized o r is) [
                    | inl a ↦ inl (sym f.0 ∙ a.0, same ∙ a.1)
                    | inr a ↦ inr (a.0, subst (λ y. row_at old y ≡ Some a.0) f.0 a.1, same ∙ a.2)
                  ])
              | inr f ↦ g.sized x s (sym f.1 ∙ h)
            ];
            counted = omega (arith, g.counted, n);
          };
      outs = λ w b loose some free g. record { sized = g.sized; counted = g.counted };
    }

all-sized : (old : QueueState) (k z : ℕ) → KeepsAll (IsSizedAs old k z) (Throughout (IsSizedAs old k z))
all-sized old k z =
    record {
      small = throughout (keeps-sized old k z);
      writes = λ w g. record { sized = g.sized; counted = g.counted };
      merges = λ w i loose there g. record { sized = g.sized; counted = g.counted };
      splits = λ w i loose there few g. record { sized = g.sized; counted = g.counted };
    }

start-sized : (q : QueueState) (o z i : ℕ) → IsInsertable q o z → IsSizedAs q o z (start q o z i)
start-sized q o z i c =
    let mine : Place = put_row (with_room q Device i z) z i in
    let rows = rows-put_new q o z i in
    let n = rows_after q (put_new q o z i) o mine None c.loose rows c.new in
    record {
      sized = λ x s h. elim (look-put q (put_new q o z i) o mine rows x) [
        | inl f ↦ inl (sym f.0, ap (λ (p : Place). p.size) (some_is (sym h ∙ f.1)))
        | inr f ↦ inr (s, sym f.1 ∙ h, refl)
      ];
      counted = omega (arith, n);
    }

insert-sized : (q : QueueState) (o z i : ℕ) → IsInsertable q o z → i < length q.sections → IsSizedAs q o z (insert_at q o z i)
insert-sized q o z i c within = (insert-good (all-sized q o z) q o z i c within (start-sized q o z i c)).good

-- ---- the laws
pub insert-sizes : (q : QueueState) (o z i : ℕ) → IsInsertable q o z → i < length q.sections → KeepsSizes q (insert_at q o z i).queue
insert-sizes q o z i c within x r s old now =
    elim ((insert-sized q o z i c within).sized x s now) [
      | inl h ↦ absurd (none_some (sym c.new ∙ subst (λ y. row_at q y ≡ Some r) h.0 old))
      | inr h ↦ h.2 ∙ ap (λ (p : Place). p.size) (some_is (sym h.1 ∙ old))
    ]

pub insert-adds : (q : QueueState) (o z i : ℕ) → IsInsertable q o z → i < length q.sections → AddsOnly q o z (insert_at q o z i).queue
insert-adds q o z i c within x s old now =
    elim ((insert-sized q o z i c within).sized x s now) [
      | inl h ↦ h
      | inr h ↦ absurd (none_some (sym old ∙ h.1))
    ]

pub insert-rows : (q : QueueState) (o z i : ℕ) → IsInsertable q o z → i < length q.sections → length (insert_at q o z i).queue.rows + (insert_at q o z i).tally.evicted ≡ length q.rows + 1
insert-rows q o z i c within = (insert-sized q o z i c within).counted
