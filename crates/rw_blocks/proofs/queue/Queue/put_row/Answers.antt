use Rattle.std.proofs.Common.{arith, sym, ap, subst, ◌≡◌, ◌∙◌, ◌<◌, ◌+◌, ◌≤◌, ℕ, List, length, get_or, true}
use Rattle.std.specs.Prelude.{None}
use Rattle.std.specs.Ordering.{nat_cmp}
use Rattle.std.specs.Map.{lookup, values_of}
use Rattle.std.specs.BTreeMap.{is_at}
use Rattle.std.proofs.lemmas.List.{get_or_default}
use Rattle.rw_blocks.specs.declared.Place.{Place}
use Rattle.rw_blocks.specs.Sections.{SectionState, section_in, has_block}
use Rattle.rw_blocks.specs.State.{QueueState}
use Rattle.rw_blocks.specs.Rows.{size_of}
use Rattle.rw_blocks.specs.Tags.{IsOnlyIn}
use Rattle.rw_blocks.specs.Weights.{weight_in, IsWeighed}
use Rattle.rw_blocks.proofs.Weighed.{IsWeighed-insert, bytes_where-le}
use Rattle.rw_blocks.proofs.queue.Queue.put_row.Goals as goal

pub overflow_add-index_mut : goal.overflow_add-index_mut
overflow_add-index_mut c =
    let rows : List (ℕ × Place) = c.self.inside.rows in
    let ss : List SectionState = c.self.inside.sections in
    let bs : List ℕ = c.self.inside.bytes.items in
    let i : ℕ = c.args.section in
    let there = c.requires.there in
    let within : i < length ss = omega (arith, ap (λ (z : QueueState). length z.sections) c.self.view_is) in
    let w : IsWeighed rows ss bs = c.self.invariant.1 (omega arith) in
    let long : length bs ≡ length ss = w.long in
    let read : c.index_mut.result.now ≡ get_or bs i 0 = c.index_mut.ensures.value ∙ get_or_default bs i c.index_mut.result.now 0 (omega arith) in
    let each : get_or bs i 0 ≡ weight_in rows (section_in ss i) = w.each i within in
    let le : weight_in rows (section_in ss i) ≤ size_of (values_of rows) = bytes_where-le rows (λ b. has_block b (section_in ss i)) in
    let whole : size_of (values_of rows) ≡ size_of (values_of c.args.self.now.rows) = ap (λ (z : QueueState). size_of (values_of z.rows)) c.self.view_is in
    let room = c.requires.room in
    omega (arith, read, each, le, whole, room)

pub invariant_of-self-2 : goal.invariant_of-self-2
invariant_of-self-2 c =
    let rows : List (ℕ × Place) = c.self.inside.rows in
    let ss : List SectionState = c.self.inside.sections in
    let bs : List ℕ = c.self.inside.bytes.items in
    let i : ℕ = c.args.section in
    let there = c.requires.there in
    let within : i < length ss = omega (arith, ap (λ (z : QueueState). length z.sections) c.self.view_is) in
    let w : IsWeighed rows ss bs = c.self.invariant.1 (omega arith) in
    let long : length bs ≡ length ss = w.long in
    let read : c.index_mut.result.now ≡ get_or bs i 0 = c.index_mut.ensures.value ∙ get_or_default bs i c.index_mut.result.now 0 (omega arith) in
    let none : lookup (is_at (nat_cmp c.args.object)) rows ≡ None = ap (λ (z : QueueState). lookup (is_at (nat_cmp c.args.object)) z.rows) c.self.view_is ∙ c.requires.new in
    let here : has_block c.args.row.place (section_in ss i) ≡ true = ap (λ (z : QueueState). has_block c.args.row.place (section_in z.sections i)) c.self.view_is ∙ c.requires.here in
    let only : IsOnlyIn i c.args.row.place ss = subst (λ (z : QueueState). IsOnlyIn i c.args.row.place z.sections) (sym c.self.view_is) c.requires.only in
    (c.self.invariant.0, λ some. rw c.in_ok-add.ensures.added (IsWeighed-insert rows ss bs c.args.object i (c.index_mut.result.now + c.args.row.size) c.args.row w c.add.ensures.ordered none within here only (ap (λ (n : ℕ). n + c.args.row.size) read)))
