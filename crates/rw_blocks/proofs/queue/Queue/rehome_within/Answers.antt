use Rattle.std.proofs.Common.{arith, sym, ap, subst, ◌≡◌, ◌∙◌, ◌<◌, ◌≤◌, ◌+◌, ◌-◌, ℕ, List, refl, length, get_or, set, true, length-set}
use Rattle.std.specs.Prelude.{Some}
use Rattle.std.specs.Ordering.{nat_cmp}
use Rattle.std.specs.Map.{values_of, remove_entry}
use Rattle.std.specs.BTreeMap.{is_at}
use Rattle.std.proofs.lemmas.List.{get_or_default}
use Rattle.rw_blocks.proofs.Entries.{lookup-remove_entry, sorted-remove_entry}
use Rattle.rw_blocks.specs.declared.Place.{Place}
use Rattle.rw_blocks.specs.Sections.{SectionState, section_in, has_block}
use Rattle.rw_blocks.specs.State.{QueueState, row_at, section_at}
use Rattle.rw_blocks.specs.Rows.{row_homed, rows_with, size_of}
use Rattle.rw_blocks.specs.Index.{home_of, bytes_of}
use Rattle.rw_blocks.specs.declared.Kind.TheVariants.{Device}
use Rattle.rw_blocks.specs.Loose.{IsLoose, IsSized}
use Rattle.rw_blocks.specs.Sums.{total}
use Rattle.rw_blocks.specs.Primitives.{with_row, after_rehome}
use Rattle.rw_blocks.specs.Tags.{IsOnlyIn, StandsIn}
use Rattle.rw_blocks.specs.Weights.{weight_in, IsWeighed}
use Rattle.rw_blocks.proofs.Laws.{Undoes-after_rehome}
use Rattle.rw_blocks.proofs.Kept.{IsLoose-after_rehome, bytes_held-is, of_row}
use Rattle.rw_blocks.proofs.Entries.{write-again}
use Rattle.rw_blocks.proofs.Moving.{room-again}
use Rattle.rw_blocks.proofs.Weighed.{IsWeighed-insert, IsWeighed-remove, row-le-weight, bytes_where-le}
use Rattle.rw_blocks.proofs.queue.Queue.rehome_within.Goals as goal

pub overflow_sub-index_mut : goal.overflow_sub-index_mut
overflow_sub-index_mut c =
    let q : QueueState = record { shape = c.self.inside.shape; sections = c.self.inside.sections; rows = c.self.inside.rows; next = c.self.inside.next } in
    let o : ℕ = c.args.object in
    let loose : IsLoose q = subst IsLoose (sym c.self.view_is) c.requires.loose in
    let r : Place = c.args.row in
    let is : row_at q o ≡ Some r = ap (λ (z : QueueState). row_at z o) c.self.view_is ∙ c.requires.row in
    let rows : List (ℕ × Place) = q.rows in
    let ss : List SectionState = q.sections in
    let bs : List ℕ = c.self.inside.bytes.items in
    let j : ℕ = c.args.from in
    let i : ℕ = c.args.section in
    let there = c.requires.there in
    let lt : i < length ss = omega (arith, ap (λ (z : QueueState). length z.sections) c.self.view_is) in
    let stands : StandsIn r.place j ss = subst (λ (z : QueueState). StandsIn r.place j z.sections) (sym c.self.view_is) c.requires.stands in
    let within : j < length ss = stands.there in
    let here : has_block r.place (section_in ss j) ≡ true = stands.here in
    let only : IsOnlyIn j r.place ss = stands.only in
    let w : IsWeighed rows ss bs = c.self.invariant.1 (omega arith) in
    let long : length bs ≡ length ss = w.long in
    let read : c.index_mut.result.now ≡ get_or bs j 0 = c.index_mut.ensures.value ∙ get_or_default bs j c.index_mut.result.now 0 (omega arith) in
    let each : get_or bs j 0 ≡ weight_in rows (section_in ss j) = w.each j within in
    let le : r.size ≤ weight_in rows (section_in ss j) = row-le-weight rows (section_in ss j) o r is here in
    omega (arith, read, each, le)

pub overflow_add-index_mut : goal.overflow_add-index_mut
overflow_add-index_mut c =
    let q : QueueState = record { shape = c.self.inside.shape; sections = c.self.inside.sections; rows = c.self.inside.rows; next = c.self.inside.next } in
    let o : ℕ = c.args.object in
    let loose : IsLoose q = subst IsLoose (sym c.self.view_is) c.requires.loose in
    let r : Place = c.args.row in
    let is : row_at q o ≡ Some r = ap (λ (z : QueueState). row_at z o) c.self.view_is ∙ c.requires.row in
    let rows : List (ℕ × Place) = q.rows in
    let ss : List SectionState = q.sections in
    let bs : List ℕ = c.self.inside.bytes.items in
    let j : ℕ = c.args.from in
    let i : ℕ = c.args.section in
    let there = c.requires.there in
    let lt : i < length ss = omega (arith, ap (λ (z : QueueState). length z.sections) c.self.view_is) in
    let stands : StandsIn r.place j ss = subst (λ (z : QueueState). StandsIn r.place j z.sections) (sym c.self.view_is) c.requires.stands in
    let within : j < length ss = stands.there in
    let here : has_block r.place (section_in ss j) ≡ true = stands.here in
    let only : IsOnlyIn j r.place ss = stands.only in
    let w : IsWeighed rows ss bs = c.self.invariant.1 (omega arith) in
    let long : length bs ≡ length ss = w.long in
    let read : c.index_mut.result.now ≡ get_or bs j 0 = c.index_mut.ensures.value ∙ get_or_default bs j c.index_mut.result.now 0 (omega arith) in
    let each : get_or bs j 0 ≡ weight_in rows (section_in ss j) = w.each j within in
    let le : r.size ≤ weight_in rows (section_in ss j) = row-le-weight rows (section_in ss j) o r is here in
    let y : ℕ = c.index_mut.result.now - r.size in
    let fewer : y + r.size ≡ get_or bs j 0 = omega (arith, read, each, le) in
    let w' : IsWeighed (remove_entry (is_at (nat_cmp o)) rows) ss (set bs j y) = IsWeighed-remove rows ss bs o j y r w is within here only fewer in
    let long' : length (set bs j y) ≡ length bs = length-set bs j y in
    let read' : c.index_mut-2.result.now ≡ get_or (set bs j y) i 0 = c.index_mut-2.ensures.value ∙ get_or_default (set bs j y) i c.index_mut-2.result.now 0 (omega arith) in
    let each' : get_or (set bs j y) i 0 ≡ weight_in (remove_entry (is_at (nat_cmp o)) rows) (section_in ss i) = w'.each i lt in
    let few : weight_in (remove_entry (is_at (nat_cmp o)) rows) (section_in ss i) ≤ size_of (values_of (remove_entry (is_at (nat_cmp o)) rows)) = bytes_where-le (remove_entry (is_at (nat_cmp o)) rows) (λ b. has_block b (section_in ss i)) in
    let room = room-again q o r loose is in
    omega (arith, read', each', few, room)

pub invariant_of-self-2 : goal.invariant_of-self-2
invariant_of-self-2 c =
    let q : QueueState = record { shape = c.self.inside.shape; sections = c.self.inside.sections; rows = c.self.inside.rows; next = c.self.inside.next } in
    let o : ℕ = c.args.object in
    let loose : IsLoose q = subst IsLoose (sym c.self.view_is) c.requires.loose in
    let r : Place = c.args.row in
    let is : row_at q o ≡ Some r = ap (λ (z : QueueState). row_at z o) c.self.view_is ∙ c.requires.row in
    let made : c.rehome_within.new.self ≡ rows_with c.self.inside.rows o (row_homed r.size c.active-active.result) = c.in_ok-rehome_within.ensures.moved c.if-not-branch.false in
    let rows : List (ℕ × Place) = q.rows in
    let ss : List SectionState = q.sections in
    let bs : List ℕ = c.self.inside.bytes.items in
    let j : ℕ = c.args.from in
    let i : ℕ = c.args.section in
    let there = c.requires.there in
    let lt : i < length ss = omega (arith, ap (λ (z : QueueState). length z.sections) c.self.view_is) in
    let stands : StandsIn r.place j ss = subst (λ (z : QueueState). StandsIn r.place j z.sections) (sym c.self.view_is) c.requires.stands in
    let within : j < length ss = stands.there in
    let here : has_block r.place (section_in ss j) ≡ true = stands.here in
    let only : IsOnlyIn j r.place ss = stands.only in
    let w : IsWeighed rows ss bs = c.self.invariant.1 (omega arith) in
    let long : length bs ≡ length ss = w.long in
    let read : c.index_mut.result.now ≡ get_or bs j 0 = c.index_mut.ensures.value ∙ get_or_default bs j c.index_mut.result.now 0 (omega arith) in
    let each : get_or bs j 0 ≡ weight_in rows (section_in ss j) = w.each j within in
    let le : r.size ≤ weight_in rows (section_in ss j) = row-le-weight rows (section_in ss j) o r is here in
    let y : ℕ = c.index_mut.result.now - r.size in
    let fewer : y + r.size ≡ get_or bs j 0 = omega (arith, read, each, le) in
    let w' : IsWeighed (remove_entry (is_at (nat_cmp o)) rows) ss (set bs j y) = IsWeighed-remove rows ss bs o j y r w is within here only fewer in
    let long' : length (set bs j y) ≡ length bs = length-set bs j y in
    let read' : c.index_mut-2.result.now ≡ get_or (set bs j y) i 0 = c.index_mut-2.ensures.value ∙ get_or_default (set bs j y) i c.index_mut-2.result.now 0 (omega arith) in
    let d : ℕ = c.active-active.result in
    let new : Place = row_homed r.size d in
    let sum : c.index_mut-2.result.now + r.size ≡ get_or (set bs j y) i 0 + r.size = ap (λ (n : ℕ). n + r.size) read' in (
      c.self.invariant.0,
      λ some. rw (made, ← (write-again rows o r new loose.ordered is))
          (IsWeighed-insert (remove_entry (is_at (nat_cmp o)) rows) ss (set bs j y) o i (c.index_mut-2.result.now + r.size) new w' (sorted-remove_entry rows o loose.ordered) (lookup-remove_entry rows o loose.ordered) lt c.active-active.ensures.here c.active-active.ensures.only sum),
    )

pub returns-clause-effect : goal.returns-clause-effect
returns-clause-effect c =
    let q : QueueState = record { shape = c.self.inside.shape; sections = c.self.inside.sections; rows = c.self.inside.rows; next = c.self.inside.next } in
    let o : ℕ = c.args.object in
    let r : Place = c.args.row in
    let made : c.rehome_within.new.self ≡ rows_with c.self.inside.rows o (row_homed r.size c.active-active.result) = c.in_ok-rehome_within.ensures.moved c.if-not-branch.false in
    let d : ℕ = (section_at c.args.self.now c.args.section).active_device in
    let active : c.active-active.result ≡ d = c.active-active.ensures.active ∙ ap (λ (z : QueueState). (section_at z c.args.section).active_device) c.self.view_is in
    let found : row_at c.args.self.now o ≡ Some r = c.requires.row in
    let whole : after_rehome c.args.self.now o c.args.section ≡ with_row c.args.self.now o (row_homed r.size d) = rw found refl in
    ap (λ (rs : List (ℕ × Place)). record q { rows = rs }) made
    ∙ (ap (λ (z : QueueState). with_row z o (row_homed r.size c.active-active.result)) c.self.view_is
    ∙ (ap (λ (p : ℕ). with_row c.args.self.now o (row_homed r.size p)) active ∙ sym whole))

pub returns-clause-fits : goal.returns-clause-fits
returns-clause-fits c =
    let v : ℕ = (section_at c.args.self.now c.args.section).active_device in
    let active : c.active-active.result ≡ v = c.active-active.ensures.active ∙ ap (λ (z : QueueState). (section_at z c.args.section).active_device) c.self.view_is in
    let most : bytes_of home_of c.active-active.result c.self.inside.rows + c.args.row.size ≤ c.block_size-most.result = c.in_ok-rehome_within.ensures.fits c.if-not-branch.false in
    let there : bytes_of home_of c.active-active.result c.self.inside.rows ≡ bytes_of home_of v c.args.self.now.rows = ap (λ (z : QueueState). bytes_of home_of c.active-active.result z.rows) c.self.view_is ∙ ap (λ b. bytes_of home_of b c.args.self.now.rows) active in
    rw (bytes_held-is Device c.args.self.now v) (omega (arith, most, there, c.block_size-most.ensures, ap (λ (z : QueueState). z.shape.block) c.self.view_is))

pub returns-clause-undoes : goal.returns-clause-undoes
returns-clause-undoes c =
    let r : Place = c.args.row in
    let is : row_at c.args.self.now c.args.object ≡ Some r = c.requires.row in
    rw (returns-clause-effect c)
    (Undoes-after_rehome _ _ _ r c.requires.loose is
    (IsLoose-after_rehome _ _ _ r c.requires.loose c.requires.there is (returns-clause-fits c)))

pub returns-clause-kept : goal.returns-clause-kept
returns-clause-kept c =
    let r : Place = c.args.row in
    let is : row_at c.args.self.now c.args.object ≡ Some r = c.requires.row in
    rw (returns-clause-effect c) (IsLoose-after_rehome _ _ _ r c.requires.loose c.requires.there is (returns-clause-fits c))

pub rehome_within-requires-clause-room : goal.rehome_within-requires-clause-room
rehome_within-requires-clause-room c =
    let r : Place = c.args.row in
    let small : r.size ≤ c.args.self.now.shape.block = (of_row c.args.self.now c.args.object r (IsSized c.args.self.now) c.requires.loose.sizes c.requires.row).1 in
    omega (arith, small, c.requires.loose.shaped.3, c.requires.loose.within, ap (λ (z : QueueState). total z) c.self.view_is)
