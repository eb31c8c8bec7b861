use Rattle.std.proofs.Common.{arith, sym, ap, subst, ◌≡◌, ◌∙◌, ◌<◌, ◌≤◌, ◌+◌, ◌-◌, ℕ, List, refl, length, get_or, set, true, length-set}
use Rattle.std.specs.Prelude.{Some, Option, IfSome}
use Rattle.std.specs.Ordering.{nat_cmp}
use Rattle.std.specs.Map.{values_of, remove_entry}
use Rattle.std.specs.BTreeMap.{is_at}
use Rattle.std.proofs.lemmas.List.{get_or_default}
use Rattle.rw_blocks.proofs.Entries.{insert_entry-same, lookup-remove_entry, sorted-remove_entry}
use Rattle.rw_blocks.specs.declared.Place.{Place}
use Rattle.rw_blocks.specs.Sections.{SectionState, section_in, has_block}
use Rattle.rw_blocks.specs.State.{QueueState, row_at, section_at}
use Rattle.rw_blocks.specs.Rows.{size_of}
use Rattle.rw_blocks.specs.Loose.{IsLoose}
use Rattle.rw_blocks.specs.Undo.{Undoes}
use Rattle.rw_blocks.specs.declared.Mark.TheVariants.{Replace}
use Rattle.rw_blocks.specs.Primitives.{with_row, after_replace}
use Rattle.rw_blocks.specs.Tags.{IsOnlyIn}
use Rattle.rw_blocks.specs.Weights.{weight_in, IsWeighed}
use Rattle.rw_blocks.proofs.Laws.{Undoes-after_replace}
use Rattle.rw_blocks.proofs.Kept.{IsLoose-after_replace}
use Rattle.rw_blocks.proofs.Present.{row-there}
use Rattle.rw_blocks.proofs.Entries.{write-again}
use Rattle.rw_blocks.proofs.Moving.{room-again}
use Rattle.rw_blocks.proofs.Weighed.{IsWeighed-insert, IsWeighed-remove, row-le-weight, bytes_where-le}
use Rattle.rw_blocks.proofs.Errors.{if_error, on_error}
use Rattle.rw_blocks.proofs.queue.Queue.replace_row.Goals as goal

at_some : (o : Option ℕ) (i : ℕ) (P : ℕ → Type 0) → o ≡ Some i → IfSome o P → P i
at_some o i P e h = let g = rw e at h in g

pub unwrap-from-requires : goal.unwrap-from-requires
unwrap-from-requires c =
    let q : QueueState = record { shape = c.self.inside.shape; sections = c.self.inside.sections; rows = c.self.inside.rows; next = c.self.inside.next } in
    let o : ℕ = c.args.object in
    let loose : IsLoose q = subst IsLoose (sym c.self.view_is) c.requires.loose in
    let r : Place = c.args.row in
    let is : row_at q o ≡ Some r = ap (λ (z : QueueState). row_at z o) c.self.view_is ∙ c.requires.row in
    row-there q o r c.section_of.result loose is c.section_of.ensures.none

pub overflow_sub-index_mut : goal.overflow_sub-index_mut
overflow_sub-index_mut c =
    let q : QueueState = record { shape = c.self.inside.shape; sections = c.self.inside.sections; rows = c.self.inside.rows; next = c.self.inside.next } in
    let o : ℕ = c.args.object in
    let loose : IsLoose q = subst IsLoose (sym c.self.view_is) c.requires.loose in
    let r : Place = c.args.row in
    let is : row_at q o ≡ Some r = ap (λ (z : QueueState). row_at z o) c.self.view_is ∙ c.requires.row in
    let rows : List (ℕ × Place) = q.rows in
    let ss : List SectionState = q.sections in
    let bs : List ℕ = c.self.inside.bytes.items in
    let j : ℕ = c.unwrap-from.result in
    let i : ℕ = c.args.section in
    let there = c.requires.there in
    let lt : i < length ss = omega (arith, ap (λ (z : QueueState). length z.sections) c.self.view_is) in
    let from : c.section_of.result ≡ Some j = c.unwrap-from.ensures in
    let within : j < length ss = at_some c.section_of.result j (λ k. k < length ss) from c.section_of.ensures.there in
    let here : has_block r.place (section_in ss j) ≡ true = at_some c.section_of.result j (λ k. has_block r.place (section_in ss k) ≡ true) from c.section_of.ensures.here in
    let only : IsOnlyIn j r.place ss = at_some c.section_of.result j (λ k. IsOnlyIn k r.place ss) from c.section_of.ensures.only in
    let w : IsWeighed rows ss bs = c.self.invariant.1 (omega arith) in
    let long : length bs ≡ length ss = w.long in
    let read : c.index_mut.result.now ≡ get_or bs j 0 = c.index_mut.ensures.value ∙ get_or_default bs j c.index_mut.result.now 0 (omega arith) in
    let each : get_or bs j 0 ≡ weight_in rows (section_in ss j) = w.each j within in
    let le : r.size ≤ weight_in rows (section_in ss j) = row-le-weight rows (section_in ss j) o r is here in
    omega (arith, read, each, le)

pub overflow_add-index_mut : goal.overflow_add-index_mut
overflow_add-index_mut c =
    let q : QueueState = record { shape = c.self.inside.shape; sections = c.self.inside.sections; rows = c.self.inside.rows; next = c.self.inside.next } in
    let o : ℕ = c.args.object in
    let loose : IsLoose q = subst IsLoose (sym c.self.view_is) c.requires.loose in
    let r : Place = c.args.row in
    let is : row_at q o ≡ Some r = ap (λ (z : QueueState). row_at z o) c.self.view_is ∙ c.requires.row in
    let rows : List (ℕ × Place) = q.rows in
    let ss : List SectionState = q.sections in
    let bs : List ℕ = c.self.inside.bytes.items in
    let j : ℕ = c.unwrap-from.result in
    let i : ℕ = c.args.section in
    let there = c.requires.there in
    let lt : i < length ss = omega (arith, ap (λ (z : QueueState). length z.sections) c.self.view_is) in
    let from : c.section_of.result ≡ Some j = c.unwrap-from.ensures in
    let within : j < length ss = at_some c.section_of.result j (λ k. k < length ss) from c.section_of.ensures.there in
    let here : has_block r.place (section_in ss j) ≡ true = at_some c.section_of.result j (λ k. has_block r.place (section_in ss k) ≡ true) from c.section_of.ensures.here in
    let only : IsOnlyIn j r.place ss = at_some c.section_of.result j (λ k. IsOnlyIn k r.place ss) from c.section_of.ensures.only in
    let w : IsWeighed rows ss bs = c.self.invariant.1 (omega arith) in
    let long : length bs ≡ length ss = w.long in
    let read : c.index_mut.result.now ≡ get_or bs j 0 = c.index_mut.ensures.value ∙ get_or_default bs j c.index_mut.result.now 0 (omega arith) in
    let each : get_or bs j 0 ≡ weight_in rows (section_in ss j) = w.each j within in
    let le : r.size ≤ weight_in rows (section_in ss j) = row-le-weight rows (section_in ss j) o r is here in
    let y : ℕ = c.index_mut.result.now - r.size in
    let fewer : y + r.size ≡ get_or bs j 0 = omega (arith, read, each, le) in
    let w' : IsWeighed (remove_entry (is_at (nat_cmp o)) rows) ss (set bs j y) = IsWeighed-remove rows ss bs o j y r w is within here only fewer in
    let long' : length (set bs j y) ≡ length bs = length-set bs j y in
    let read' : c.index_mut-2.result.now ≡ get_or (set bs j y) i 0 = c.index_mut-2.ensures.value ∙ get_or_default (set bs j y) i c.index_mut-2.result.now 0 (omega arith) in
    let each' : get_or (set bs j y) i 0 ≡ weight_in (remove_entry (is_at (nat_cmp o)) rows) (section_in ss i) = w'.each i lt in
    let few : weight_in (remove_entry (is_at (nat_cmp o)) rows) (section_in ss i) ≤ size_of (values_of (remove_entry (is_at (nat_cmp o)) rows)) = bytes_where-le (remove_entry (is_at (nat_cmp o)) rows) (λ b. has_block b (section_in ss i)) in
    let room = room-again q o r loose is in
    omega (arith, read', each', few, room)

pub invariant_of-self-2 : goal.invariant_of-self-2
invariant_of-self-2 c =
    let q : QueueState = record { shape = c.self.inside.shape; sections = c.self.inside.sections; rows = c.self.inside.rows; next = c.self.inside.next } in
    let o : ℕ = c.args.object in
    let loose : IsLoose q = subst IsLoose (sym c.self.view_is) c.requires.loose in
    let r : Place = c.args.row in
    let is : row_at q o ≡ Some r = ap (λ (z : QueueState). row_at z o) c.self.view_is ∙ c.requires.row in
    let rows : List (ℕ × Place) = q.rows in
    let ss : List SectionState = q.sections in
    let bs : List ℕ = c.self.inside.bytes.items in
    let j : ℕ = c.unwrap-from.result in
    let i : ℕ = c.args.section in
    let there = c.requires.there in
    let lt : i < length ss = omega (arith, ap (λ (z : QueueState). length z.sections) c.self.view_is) in
    let from : c.section_of.result ≡ Some j = c.unwrap-from.ensures in
    let within : j < length ss = at_some c.section_of.result j (λ k. k < length ss) from c.section_of.ensures.there in
    let here : has_block r.place (section_in ss j) ≡ true = at_some c.section_of.result j (λ k. has_block r.place (section_in ss k) ≡ true) from c.section_of.ensures.here in
    let only : IsOnlyIn j r.place ss = at_some c.section_of.result j (λ k. IsOnlyIn k r.place ss) from c.section_of.ensures.only in
    let w : IsWeighed rows ss bs = c.self.invariant.1 (omega arith) in
    let long : length bs ≡ length ss = w.long in
    let read : c.index_mut.result.now ≡ get_or bs j 0 = c.index_mut.ensures.value ∙ get_or_default bs j c.index_mut.result.now 0 (omega arith) in
    let each : get_or bs j 0 ≡ weight_in rows (section_in ss j) = w.each j within in
    let le : r.size ≤ weight_in rows (section_in ss j) = row-le-weight rows (section_in ss j) o r is here in
    let y : ℕ = c.index_mut.result.now - r.size in
    let fewer : y + r.size ≡ get_or bs j 0 = omega (arith, read, each, le) in
    let w' : IsWeighed (remove_entry (is_at (nat_cmp o)) rows) ss (set bs j y) = IsWeighed-remove rows ss bs o j y r w is within here only fewer in
    let long' : length (set bs j y) ≡ length bs = length-set bs j y in
    let read' : c.index_mut-2.result.now ≡ get_or (set bs j y) i 0 = c.index_mut-2.ensures.value ∙ get_or_default (set bs j y) i c.index_mut-2.result.now 0 (omega arith) in
    let d : ℕ = c.active-active.result in
    let new : Place = record r { place = d } in
    let sum : c.index_mut-2.result.now + r.size ≡ get_or (set bs j y) i 0 + r.size = ap (λ (n : ℕ). n + r.size) read' in (
      c.self.invariant.0,
      λ some. rw (c.in_ok-replace.ensures.replaced, ← (write-again rows o r new loose.ordered is))
          (IsWeighed-insert (remove_entry (is_at (nat_cmp o)) rows) ss (set bs j y) o i (c.index_mut-2.result.now + r.size) new w' (sorted-remove_entry rows o loose.ordered) (lookup-remove_entry rows o loose.ordered) lt c.active-active.ensures.here c.active-active.ensures.only sum),
    )

pub returns-clause-effect : goal.returns-clause-effect
returns-clause-effect c =
    let q : QueueState = record { shape = c.self.inside.shape; sections = c.self.inside.sections; rows = c.self.inside.rows; next = c.self.inside.next } in
    let o : ℕ = c.args.object in
    let loose : IsLoose q = subst IsLoose (sym c.self.view_is) c.requires.loose in
    let r : Place = c.args.row in
    let is : row_at q o ≡ Some r = ap (λ (z : QueueState). row_at z o) c.self.view_is ∙ c.requires.row in
    let v : ℕ = (section_at c.args.self.now c.args.section).active_virtual in
    let active : c.active-active.result ≡ v = c.active-active.ensures.active ∙ ap (λ (z : QueueState). (section_at z c.args.section).active_virtual) c.self.view_is in
    let found : row_at c.args.self.now o ≡ Some r = c.requires.row in
    let whole : after_replace c.args.self.now o c.args.section ≡ with_row c.args.self.now o (record r { place = v }) = rw found refl in
    ap (λ (rs : List (ℕ × Place)). record q { rows = rs }) c.in_ok-replace.ensures.replaced
    ∙ (ap (λ (z : QueueState). with_row z o (record r { place = c.active-active.result })) c.self.view_is
    ∙ (ap (λ (p : ℕ). with_row c.args.self.now o (record r { place = p })) active ∙ sym whole))

pub returns-clause-undoes : goal.returns-clause-undoes
returns-clause-undoes c =
    let r : Place = c.args.row in
    let is : row_at c.args.self.now c.args.object ≡ Some r = c.requires.row in
    rw (returns-clause-effect c)
    (Undoes-after_replace _ _ _ r c.requires.loose is
    (IsLoose-after_replace _ _ _ r c.requires.loose c.requires.there is c.requires.fits))

pub returns-clause-kept : goal.returns-clause-kept
returns-clause-kept c =
    let r : Place = c.args.row in
    let is : row_at c.args.self.now c.args.object ≡ Some r = c.requires.row in
    rw (returns-clause-effect c) (IsLoose-after_replace _ _ _ r c.requires.loose c.requires.there is c.requires.fits)

-- an object that is at the active virtual block already stays as it is
pub returns-then-row-active-clause-effect : goal.returns-then-row-active-clause-effect
returns-then-row-active-clause-effect c =
    let q : QueueState = c.args.self.now in
    let o : ℕ = c.args.object in
    let r : Place = c.args.row in
    let v : ℕ = (section_at q c.args.section).active_virtual in
    let active : c.active-active.result ≡ v = c.active-active.ensures.active ∙ ap (λ (z : QueueState). (section_at z c.args.section).active_virtual) c.self.view_is in
    let there : r.place ≡ v = c.if-row-active.true ∙ active in
    let whole : after_replace q o c.args.section ≡ with_row q o (record r { place = v }) = rw c.requires.row refl in
    let same : with_row q o r ≡ q = ap (λ (rs : List (ℕ × Place)). record q { rows = rs }) (insert_entry-same q.rows o r c.requires.loose.ordered c.requires.row) in
    sym (whole ∙ (ap (λ (p : ℕ). with_row q o (record r { place = p })) (sym there) ∙ same))

pub returns-then-row-active-clause-undoes : goal.returns-then-row-active-clause-undoes
returns-then-row-active-clause-undoes c =
    subst (λ (z : QueueState). Undoes (Replace c.args.object c.args.row.place) c.args.self.now z) (sym (returns-then-row-active-clause-effect c))
    (Undoes-after_replace _ _ _ c.args.row c.requires.loose c.requires.row
    (IsLoose-after_replace _ _ _ c.args.row c.requires.loose c.requires.there c.requires.row c.requires.fits))

pub returns-then-row-active-clause-kept : goal.returns-then-row-active-clause-kept
returns-then-row-active-clause-kept c = c.requires.loose

pub returns-in_err-replace-clause-effect : goal.returns-in_err-replace-clause-effect
returns-in_err-replace-clause-effect c = on_error _ _ c.from_residual.result c.from_residual.ensures.1

pub returns-in_err-replace-clause-undoes : goal.returns-in_err-replace-clause-undoes
returns-in_err-replace-clause-undoes c = if_error _ _ c.from_residual.result c.from_residual.ensures.1

pub returns-in_err-replace-clause-kept : goal.returns-in_err-replace-clause-kept
returns-in_err-replace-clause-kept c = on_error _ _ c.from_residual.result c.from_residual.ensures.1
