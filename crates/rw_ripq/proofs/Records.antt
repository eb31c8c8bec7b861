-- How a trail grows with the work.
use Rattle.std.proofs.Common.{◌≡◌, ℕ, ◌+◌, ◌≤◌, ◌<◌, List, [], ◌∷◌, ◌++◌, sym, ap, subst, arith, length, length-append, set, get_or, take, drop, Bool, true, false}
use Rattle.std.specs.Prelude.{remove}
use Rattle.std.proofs.Math.ListN.{take-append-drop}
use Rattle.std.proofs.lemmas.List.Edits.{length-remove, get_or-remove_below}
use Rattle.std.proofs.lemmas.List.Sums.{sum_by-set, sum_by-insert, sum_by-remove}
use Rattle.rw_blocks.specs.declared.Kind.TheVariants.{Device, Virtual}
use Rattle.rw_ripq.specs.Sealed.{sealed_blocks}
use Rattle.rw_blocks.specs.declared.Kind.{Kind}
use Rattle.rw_blocks.specs.declared.Mark.{Mark}
use Rattle.rw_blocks.specs.declared.Vanished.{Vanished}
use Rattle.rw_blocks.specs.Sections.{SectionState, no_section}
use Rattle.rw_blocks.specs.State.{QueueState, section_at}
use Rattle.rw_blocks.specs.Undo.{Undoes}
use Rattle.rw_blocks.specs.Changes.{block_unless, section_joining}
use Rattle.rw_blocks.specs.Primitives.{after_remove, after_rehome, after_seal, after_take_out, after_merge, after_split, empty_actives}
use Rattle.rw_ripq.specs.declared.Tally.{Tally}
use Rattle.rw_ripq.specs.Work.{Work, work_before, work_of}
use Rattle.rw_ripq.specs.Weight.{income, savings}
use Rattle.rw_ripq.specs.Record.{Recorded}
use Rattle.rw_ripq.proofs.Trails.{Leads-push}
use Rattle.rw_ripq.proofs.Measures.{sealed_blocks-after_seal, sealed_blocks-after_take_out}

pub Recorded-none : (ms : List Mark) (w : Work) → Recorded ms w ms w
Recorded-none ms w = record { leads = λ start l. l; spends = omega arith }

pub Recorded-then : {ms ns ps : List Mark} {w v u : Work} → Recorded ms w ns v → Recorded ns v ps u → Recorded ms w ps u
Recorded-then r s = record { leads = λ start l. s.leads start (r.leads start l); spends = omega (arith, r.spends, s.spends) }

-- one more mark, which is paid
pub Recorded-push : (ms ns : List Mark) (m : Mark) (w v : Work) → ns ≡ ms ++ m ∷ [] → Undoes m w.queue v.queue → 1 + savings v + income w ≤ savings w + income v → Recorded ms w ns v
Recorded-push ms ns m w v is undoes paid =
    subst (λ ns. Recorded ms w ns v) (sym is) (record {
      leads = λ start l. Leads-push ms m start w.queue v.queue l undoes;
      spends = omega (arith, length-append ms (m ∷ []), paid);
    })

pub Recorded-seal : (ms ns : List Mark) (m : Mark) (q q' : QueueState) (i : ℕ) (K : Kind) → ns ≡ ms ++ m ∷ [] → Undoes m q q' → q' ≡ after_seal q i K → i < length q.sections
    → Recorded ms (work_before q) ns (work_before q')
Recorded-seal ms ns m q q' i K is undoes made within =
    Recorded-push ms ns m (work_before q) (work_before q') is undoes
    (subst (λ s. 1 + savings (work_before s) + income (work_before q) ≤ savings (work_before q) + income (work_before s)) (sym made) (omega (arith, sealed_blocks-after_seal q i K within)))

pub Recorded-take_out : (ms ns : List Mark) (m : Mark) (q q' : QueueState) (i p : ℕ) → ns ≡ ms ++ m ∷ [] → Undoes m q q' → q' ≡ after_take_out q i p → i < length q.sections → p < length (section_at q i).sealed
    → Recorded ms (work_before q) ns (work_before q')
Recorded-take_out ms ns m q q' i p is undoes made within inside =
    Recorded-push ms ns m (work_before q) (work_before q') is undoes
    (subst (λ s. 1 + savings (work_before s) + income (work_before q) ≤ savings (work_before q) + income (work_before s)) (sym made) (omega (arith, sealed_blocks-after_take_out q i p within inside)))

-- a row that leaves is counted
pub Recorded-remove : (ms ns : List Mark) (m : Mark) (q q' : QueueState) (t : Tally) (o : ℕ) → ns ≡ ms ++ m ∷ [] → Undoes m q q' → q' ≡ after_remove q o
    → Recorded ms (work_of q t) ns (work_of q' (record t { evicted = t.evicted + 1 }))
Recorded-remove ms ns m q q' t o is undoes made =
    Recorded-push ms ns m (work_of q t) (work_of q' (record t { evicted = t.evicted + 1 })) is undoes
    (subst (λ s. 1 + savings (work_of s (record t { evicted = t.evicted + 1 })) + income (work_of q t) ≤ savings (work_of q t) + income (work_of s (record t { evicted = t.evicted + 1 }))) (sym made) (omega arith))

-- what changes no count is recorded whatever the counts are
pub Recorded-at : {ms ns : List Mark} {q q' : QueueState} (t : Tally) → Recorded ms (work_before q) ns (work_before q') → Recorded ms (work_of q t) ns (work_of q' t)
Recorded-at t r = record { leads = r.leads; spends = omega (arith, r.spends) }

-- room, the mark of a put again, and perhaps a block taken out
pub Recorded-reinsert : (ms ns : List Mark) {ls ps : List Mark} (m : Mark) (q p : QueueState) {o q' : QueueState} (t : Tally) (x i n : ℕ)
    → Recorded ls (work_before o) ms (work_before q) → ns ≡ ms ++ m ∷ [] → Undoes m q p → p ≡ after_rehome q x i → Recorded ns (work_before p) ps (work_before q')
    → Recorded ls (work_of o t) ps (work_of q' (record t { reinserted = t.reinserted + 1; writes = n }))
Recorded-reinsert ms ns m q p t x i n before is undoes made after =
    let counted : Tally = record t { reinserted = t.reinserted + 1; writes = n } in
    let put = Recorded-push ms ns m (work_of q t) (work_of p counted) is undoes
    (subst (λ s. 1 + savings (work_of s counted) + income (work_of q t) ≤ savings (work_of q t) + income (work_of s counted)) (sym made) (omega arith)) in
    Recorded-then (Recorded-then (Recorded-at t before) put) (Recorded-at counted after)

-- ---- a merge and a split
sealed_blocks-after_split : (q : QueueState) (i keep : ℕ) → i < length q.sections → sealed_blocks (after_split q i keep) ≡ sealed_blocks q
sealed_blocks-after_split q i keep within =
    let s : SectionState = section_at q i in
    let upper : SectionState = record s { sealed = take keep s.sealed } in
    let lower : SectionState = record { active_device = q.next; active_virtual = q.next + 1; sealed = drop keep s.sealed } in
    let long : SectionState → ℕ = λ s. length s.sealed in
    omega (
      arith,
      sum_by-insert long (set q.sections i upper) (i + 1) lower,
      sum_by-set long q.sections i upper no_section within,
      ap length (take-append-drop keep s.sealed),
      length-append (take keep s.sealed) (drop keep s.sealed),
    )

length-unless : (t : Bool) (e : ℕ × Kind) → length (block_unless t e) ≤ 1
length-unless true e = omega arith
length-unless false e = omega arith

length-joining : (v : Vanished) (u l : SectionState) → length (section_joining v u l).sealed ≤ length u.sealed + length l.sealed + 2
length-joining v u l =
    let first : List (ℕ × Kind) = block_unless v.device (l.active_device, Device) in
    let second : List (ℕ × Kind) = block_unless v.virtual_block (l.active_virtual, Virtual) in
    omega (
      arith,
      length-append u.sealed (first ++ (second ++ l.sealed)),
      length-append first (second ++ l.sealed),
      length-append second l.sealed,
      length-unless v.device (l.active_device, Device),
      length-unless v.virtual_block (l.active_virtual, Virtual),
    )

sealed_blocks-after_merge : (q : QueueState) (i : ℕ) → i + 1 < length q.sections → sealed_blocks (after_merge q i) ≤ sealed_blocks q + 2
sealed_blocks-after_merge q i within =
    let u : SectionState = section_at q i in
    let l : SectionState = section_at q (i + 1) in
    let v : Vanished = empty_actives q (i + 1) in
    let xs : List SectionState = remove q.sections (i + 1) in
    let size : SectionState → ℕ = λ s. length s.sealed in
    let long : length xs + 1 ≡ length q.sections = length-remove q.sections (i + 1) within in
    let first : get_or xs i no_section ≡ u = get_or-remove_below q.sections (i + 1) no_section i (omega arith) within in
    let f : size (get_or xs i no_section) ≡ size u = ap size first in
    omega (arith, f, sum_by-remove size q.sections (i + 1) no_section within, sum_by-set size xs i (section_joining v u l) no_section (omega arith), length-joining v u l)

pub Recorded-merge : (ms ns : List Mark) (m : Mark) (q q' : QueueState) (t : Tally) (i n : ℕ) → ns ≡ ms ++ m ∷ [] → Undoes m q q' → q' ≡ after_merge q i → i + 1 < length q.sections
    → Recorded ms (work_of q t) ns (work_of q' (record t { merges = t.merges + 1; writes = n }))
Recorded-merge ms ns m q q' t i n is undoes made within =
    let counted : Tally = record t { merges = t.merges + 1; writes = n } in
    Recorded-push ms ns m (work_of q t) (work_of q' counted) is undoes
    (subst (λ s. 1 + savings (work_of s counted) + income (work_of q t) ≤ savings (work_of q t) + income (work_of s counted)) (sym made) (omega (arith, sealed_blocks-after_merge q i within)))

pub Recorded-split : (ms ns : List Mark) (m : Mark) (q q' : QueueState) (t : Tally) (i keep : ℕ) → ns ≡ ms ++ m ∷ [] → Undoes m q q' → q' ≡ after_split q i keep → i < length q.sections
    → Recorded ms (work_of q t) ns (work_of q' (record t { splits = t.splits + 1 }))
Recorded-split ms ns m q q' t i keep is undoes made within =
    let counted : Tally = record t { splits = t.splits + 1 } in
    Recorded-push ms ns m (work_of q t) (work_of q' counted) is undoes
    (subst (λ s. 1 + savings (work_of s counted) + income (work_of q t) ≤ savings (work_of q t) + income (work_of s counted)) (sym made) (omega (arith, sealed_blocks-after_split q i keep within)))
