-- An operation leaves no more sealed device blocks than the shape allows.
use Rattle.std.proofs.Common.{◌≡◌, ℕ, ◌+◌, ◌/◌, ◌≤◌, ◌<◌, refl, arith, Bool, true, false, cond, length, set, take, drop, suc, zero}
use Rattle.std.specs.Prelude.{Option, Some, None, nat_lt, remove}
use Rattle.std.proofs.lemmas.Bool.{ltb-true, ltb-false, and_parts}
use Rattle.std.proofs.lemmas.List.Sums.{sum_by-cons, sum_by-set, sum_by-insert, sum_by-remove, sum_by-take-drop, count_by-le-length}
use Rattle.rw_blocks.proofs.Cited.{IsLoose-after_merge}
use Rattle.rw_blocks.specs.Sections.{devices_in, SectionState, no_section, is_kind}
use Rattle.rw_blocks.specs.Loose.{IsLoose, is_sealed_virtual, sealed_devices}
use Rattle.rw_blocks.specs.Changes.{section_sealing}
use Rattle.rw_blocks.specs.Primitives.{after_replace, after_split}
use Rattle.rw_blocks.specs.State.{QueueState, row_or, section_at}
use Rattle.rw_blocks.specs.declared.Kind.{Kind}
use Rattle.rw_blocks.specs.declared.Kind.TheVariants.{Device, Virtual}
use Rattle.rw_ripq.proofs.Cases.{adjust_unless, moved_unless, seal_unless, split_if, without_block_if}
use Rattle.rw_ripq.proofs.Adjusts.{IsLoose-put_new, start, written}
use Rattle.rw_ripq.specs.Record.{IsInsertable}
use Rattle.rw_ripq.proofs.Basics.{by_bool}
use Rattle.rw_ripq.proofs.Falls.{sum-le, turn-falls}
use Rattle.rw_ripq.proofs.Folds.{measure}
use Rattle.rw_ripq.proofs.Found.{heavy_section-there, light_pair-there}
use Rattle.rw_ripq.proofs.Measures.{sealed-there, sealed-virtual-there}
use Rattle.rw_ripq.proofs.Walks.{Keeps, evict-loose, throughout}
use Rattle.rw_ripq.specs.Adjust.{adjust, heavy_section, light_pair, merge, merge_at, merge_once, split_at}
use Rattle.rw_ripq.specs.Evict.{evict, evict_last, evict_within, is_over}
use Rattle.rw_ripq.specs.Insert.{insert_at}
use Rattle.rw_ripq.specs.Promote.{is_active_in, promote_to}
use Rattle.rw_ripq.specs.Put.{is_room, with_room}
use Rattle.rw_ripq.specs.Sealed.{without_if_emptied, is_emptied, is_sealed, sealed_blocks, sealed_position, sealed_section, without_block}
use Rattle.rw_ripq.specs.Work.{Work}

-- ---- an eviction ends because it is done
devices-few : (q : QueueState) → sealed_devices q ≤ sealed_blocks q
devices-few q = sum-le devices_in (λ (s : SectionState). length s.sealed) q.sections (λ s. count_by-le-length (λ (e : ℕ × Kind). is_kind Device e.1) s.sealed)

within-done : (n : ℕ) (w : Work) → IsLoose w.queue → measure w.queue ≤ n → is_over (evict_within n w).queue ≡ false
within-done zero w loose le =
    by_bool (is_over w.queue)
    (λ t. absurd (omega (arith, le, devices-few w.queue, ltb-true _ _ t)))
    (λ f. f)
within-done (suc n) w loose le =
    by_bool (is_over w.queue)
    (λ t. rw (t, evict_within) (within-done n (evict_last w) (turn-falls.good w loose t) (omega (arith, le, turn-falls.lower w loose t))))
    (λ f. rw (f, evict_within) f)

pub evict-done_within : (w : Work) → IsLoose w.queue → is_over (evict w).queue ≡ false
evict-done_within w loose = within-done (measure w.queue) w loose (omega arith)

-- ---- so does an adjustment
merge_at-under : (o : Option ℕ) (w : Work) → light_pair w.queue ≡ o → IsLoose w.queue → is_over w.queue ≡ false → is_over (merge_at o w).queue ≡ false
merge_at-under None w is loose under = under
merge_at-under (Some i) w is loose under = evict-done_within (merge w i) (IsLoose-after_merge w.queue i loose (light_pair-there w.queue i is))

devices-after_split : (q : QueueState) (i n : ℕ) → i < length q.sections → sealed_devices (after_split q i n) ≡ sealed_devices q
devices-after_split q i n within =
    let s : SectionState = section_at q i in
    let upper : SectionState = record s { sealed = take n s.sealed } in
    let lower : SectionState = record { active_device = q.next; active_virtual = q.next + 1; sealed = drop n s.sealed } in
    omega (arith, sum_by-insert devices_in (set q.sections i upper) (i + 1) lower, sum_by-set devices_in q.sections i upper no_section within, sum_by-take-drop (λ (e : ℕ × Kind). cond (is_kind Device e.1) 1 0) s.sealed n)

split_at-few : (o : Option ℕ) (w : Work) → heavy_section w.queue ≡ o → is_over w.queue ≡ false → sealed_devices (split_at o w).queue ≤ (split_at o w).queue.shape.blocks
split_at-few None w is under = ltb-false _ _ under
split_at-few (Some i) w is under = omega (arith, ltb-false _ _ under, devices-after_split w.queue i ((length (section_at w.queue i).sealed + 1) / 2) (heavy_section-there w.queue i is))

split_if-few : (t : Bool) (w : Work) → is_over w.queue ≡ false → sealed_devices (split_if t w).queue ≤ (split_if t w).queue.shape.blocks
split_if-few true w under = split_at-few (heavy_section w.queue) w refl under
split_if-few false w under = ltb-false _ _ under

adjust-few : (w : Work) → IsLoose w.queue → IsLoose (evict w).queue → sealed_devices (adjust w).queue ≤ (adjust w).queue.shape.blocks
adjust-few w loose kept =
    split_if-few (nat_lt (length (merge_once (evict w)).queue.sections) (merge_once (evict w)).queue.shape.sections) (merge_once (evict w))
    (merge_at-under (light_pair (evict w).queue) (evict w) refl kept (evict-done_within w loose))

-- an eviction keeps a loose queue, whatever else it keeps
keeps-nothing : Keeps (λ w. Unit {0})
keeps-nothing = record { leaves = λ w e o r loose last is at g. tt; reputs = λ w b o r os v homed is home g. tt; outs = λ w b loose some free g. tt }

pub evict-stays_loose : (w : Work) → IsLoose w.queue → IsLoose (evict w).queue
evict-stays_loose w loose = evict-loose (throughout keeps-nothing) w loose tt

insert_if-few : (t : Bool) (w : Work) → IsLoose w.queue → (t ≡ true → sealed_devices w.queue ≤ w.queue.shape.blocks) → sealed_devices (adjust_unless t w).queue ≤ (adjust_unless t w).queue.shape.blocks
insert_if-few true w loose few = few refl
insert_if-few false w loose few = adjust-few (written w) loose (evict-stays_loose (written w) loose)

pub insert-devices : (q : QueueState) (o z i : ℕ) → IsInsertable q o z → i < length q.sections → sealed_devices q ≤ q.shape.blocks → sealed_devices (insert_at q o z i).queue ≤ (insert_at q o z i).queue.shape.blocks
insert-devices q o z i c within few =
    insert_if-few (is_room q Device i z) (start q o z i) (IsLoose-put_new q o z i c within) (λ t. rw t few)

-- ---- a promotion seals and takes out virtual blocks alone
devices-if : (t : Bool) (q : QueueState) (i : ℕ) → i < length q.sections → sealed_devices (seal_unless t q i Virtual) ≡ sealed_devices q
devices-if true q i within = refl
devices-if false q i within =
    let s : SectionState = section_at q i in
    omega (arith, sum_by-set devices_in q.sections i (section_sealing Virtual q.next s) no_section within, sum_by-cons (λ (e : ℕ × Kind). cond (is_kind Device e.1) 1 0) (s.active_virtual, Virtual) s.sealed)

devices-without_block : (q : QueueState) (b : ℕ) → is_sealed q b ≡ true → sealed_devices (without_block q b) ≤ sealed_devices q
devices-without_block q b there =
    let t = sealed-there q b there in
    let s : SectionState = section_at q (sealed_section q b) in
    omega (arith, sum_by-set devices_in q.sections (sealed_section q b) (record s { sealed = remove s.sealed (sealed_position q b) }) no_section t.0, sum_by-remove (λ (e : ℕ × Kind). cond (is_kind Device e.1) 1 0) s.sealed (sealed_position q b) (0, Device) t.1)

pub devices-clear : (t : Bool) (q : QueueState) (b : ℕ) → (t ≡ true → is_sealed q b ≡ true) → sealed_devices (without_block_if t q b) ≤ sealed_devices q
devices-clear true q b there = devices-without_block q b (there refl)
devices-clear false q b there = omega arith

pub devices-cleared : (q : QueueState) (b : ℕ) → sealed_devices (without_if_emptied q b) ≤ sealed_devices q
devices-cleared q b = devices-clear (is_emptied q b) q b (λ e. sealed-virtual-there q b (and_parts (is_sealed_virtual q b) _ e).0)

devices-unless : (t : Bool) (q : QueueState) (o i : ℕ) → i < length q.sections → sealed_devices (moved_unless t q o i) ≤ sealed_devices q
devices-unless true q o i within = omega arith
devices-unless false q o i within =
    let z : ℕ = (row_or q o).size in
    omega (arith, devices-cleared (after_replace (with_room q Virtual i z) o i) (row_or q o).place, devices-if (is_room q Virtual i z) q i within)

pub promote-devices : (q : QueueState) (o i : ℕ) → i < length q.sections → sealed_devices (promote_to q o i) ≤ sealed_devices q
promote-devices q o i within = devices-unless (is_active_in q (row_or q o).place i) q o i within
