use Rattle.std.proofs.Common.{arith, ap, ◌≡◌, ◌∙◌, ◌<◌, ◌+◌, ◌≤◌, ℕ, List, length, get_or}
use Rattle.std.specs.Prelude.{None}
use Rattle.std.specs.Ordering.{nat_cmp}
use Rattle.std.specs.Map.{lookup, values_of}
use Rattle.std.specs.BTreeMap.{is_at}
use Rattle.std.proofs.lemmas.List.{get_or_default}
use Rattle.rw_blocks.specs.declared.Kind.TheVariants.{Device}
use Rattle.rw_blocks.specs.declared.Place.{Place}
use Rattle.rw_blocks.specs.Sections.{SectionState, active_of, section_in, has_block}
use Rattle.rw_blocks.specs.State.{QueueState, section_at}
use Rattle.rw_blocks.specs.Rows.{row_homed, rows_with, size_of}
use Rattle.rw_blocks.specs.Index.{home_of, bytes_of}
use Rattle.rw_blocks.specs.Primitives.{with_row}
use Rattle.rw_blocks.specs.Weights.{weight_in, IsWeighed}
use Rattle.rw_blocks.proofs.Kept.{IsLoose-after_add, bytes_held-is}
use Rattle.rw_blocks.proofs.Laws.{Undoes-after_add}
use Rattle.rw_blocks.proofs.Weighed.{IsWeighed-insert, bytes_where-le}
use Rattle.rw_blocks.proofs.queue.Queue.add_within.Goals as goal

pub overflow_add-index_mut : goal.overflow_add-index_mut
overflow_add-index_mut c =
    let rows : List (ℕ × Place) = c.self.inside.rows in
    let ss : List SectionState = c.self.inside.sections in
    let bs : List ℕ = c.self.inside.bytes.items in
    let i : ℕ = c.args.section in
    let there = c.requires.there in
    let within : i < length ss = omega (arith, ap (λ (z : QueueState). length z.sections) c.self.view_is) in
    let w : IsWeighed rows ss bs = c.self.invariant.1 (omega arith) in
    let long : length bs ≡ length ss = w.long in
    let read : c.index_mut.result.now ≡ get_or bs i 0 = c.index_mut.ensures.value ∙ get_or_default bs i c.index_mut.result.now 0 (omega arith) in
    let each : get_or bs i 0 ≡ weight_in rows (section_in ss i) = w.each i within in
    let le : weight_in rows (section_in ss i) ≤ size_of (values_of rows) = bytes_where-le rows (λ b. has_block b (section_in ss i)) in
    let whole : size_of (values_of rows) ≡ size_of (values_of c.args.self.now.rows) = ap (λ (z : QueueState). size_of (values_of z.rows)) c.self.view_is in
    let room = c.requires.room in
    omega (arith, read, each, le, whole, room)

pub invariant_of-self-2 : goal.invariant_of-self-2
invariant_of-self-2 c =
    let rows : List (ℕ × Place) = c.self.inside.rows in
    let ss : List SectionState = c.self.inside.sections in
    let bs : List ℕ = c.self.inside.bytes.items in
    let i : ℕ = c.args.section in
    let there = c.requires.there in
    let within : i < length ss = omega (arith, ap (λ (z : QueueState). length z.sections) c.self.view_is) in
    let w : IsWeighed rows ss bs = c.self.invariant.1 (omega arith) in
    let long : length bs ≡ length ss = w.long in
    let read : c.index_mut.result.now ≡ get_or bs i 0 = c.index_mut.ensures.value ∙ get_or_default bs i c.index_mut.result.now 0 (omega arith) in
    let row : Place = row_homed c.args.size c.active-active.result in
    let made : c.add_within.new.self ≡ rows_with rows c.args.object row = c.in_ok-add_within.ensures.added c.if-not-branch.false in
    let none : lookup (is_at (nat_cmp c.args.object)) rows ≡ None = ap (λ (z : QueueState). lookup (is_at (nat_cmp c.args.object)) z.rows) c.self.view_is ∙ c.requires.new in
    (c.self.invariant.0, λ some. rw made (IsWeighed-insert rows ss bs c.args.object i (c.index_mut.result.now + c.args.size) row w c.add_within.ensures.ordered none within c.active-active.ensures.here c.active-active.ensures.only (ap (λ (n : ℕ). n + c.args.size) read)))

pub returns-clause-effect : goal.returns-clause-effect
returns-clause-effect c =
    let q : QueueState = record { shape = c.self.inside.shape; sections = c.self.inside.sections; rows = c.self.inside.rows; next = c.self.inside.next } in
    let row : Place = row_homed c.args.size c.active-active.result in
    let made : c.add_within.new.self ≡ rows_with c.self.inside.rows c.args.object row = c.in_ok-add_within.ensures.added c.if-not-branch.false in
    let home : c.active-active.result ≡ active_of Device (section_at c.args.self.now c.args.section) =
    c.active-active.ensures.active ∙ ap (λ (z : QueueState). active_of Device (section_at z c.args.section)) c.self.view_is in
    ap (λ (rs : List (ℕ × Place)). record q { rows = rs }) made
    ∙ (ap (λ (z : QueueState). with_row z c.args.object row) c.self.view_is
    ∙ ap (λ b. with_row c.args.self.now c.args.object (row_homed c.args.size b)) home)

pub returns-clause-fits : goal.returns-clause-fits
returns-clause-fits c =
    let v : ℕ = (section_at c.args.self.now c.args.section).active_device in
    let active : c.active-active.result ≡ v = c.active-active.ensures.active ∙ ap (λ (z : QueueState). (section_at z c.args.section).active_device) c.self.view_is in
    let most : bytes_of home_of c.active-active.result c.self.inside.rows + c.args.size ≤ c.block_size-most.result = c.in_ok-add_within.ensures.fits c.if-not-branch.false in
    let there : bytes_of home_of c.active-active.result c.self.inside.rows ≡ bytes_of home_of v c.args.self.now.rows = ap (λ (z : QueueState). bytes_of home_of c.active-active.result z.rows) c.self.view_is ∙ ap (λ b. bytes_of home_of b c.args.self.now.rows) active in
    rw (bytes_held-is Device c.args.self.now v) (omega (arith, most, there, c.block_size-most.ensures, ap (λ (z : QueueState). z.shape.block) c.self.view_is))

pub returns-clause-undoes : goal.returns-clause-undoes
returns-clause-undoes c =
    rw (returns-clause-effect c)
    (Undoes-after_add _ _ _ _ c.requires.loose c.requires.new
    (IsLoose-after_add _ _ _ _ c.requires.loose c.requires.there c.requires.new c.requires.some (returns-clause-fits c) c.requires.room))

pub returns-clause-kept : goal.returns-clause-kept
returns-clause-kept c = rw (returns-clause-effect c) (IsLoose-after_add _ _ _ _ c.requires.loose c.requires.there c.requires.new c.requires.some (returns-clause-fits c) c.requires.room)
