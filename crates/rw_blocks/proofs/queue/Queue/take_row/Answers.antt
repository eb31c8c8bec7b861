use Rattle.std.proofs.Common.{arith, sym, ap, subst, ◌≡◌, ◌∙◌, ◌<◌, ◌-◌, ◌≤◌, ℕ, List, length, get_or, true}
use Rattle.std.specs.Prelude.{Some, Option, IsNone, IfSome}
use Rattle.std.proofs.lemmas.List.{get_or_default}
use Rattle.rw_blocks.specs.declared.Place.{Place}
use Rattle.rw_blocks.specs.Sections.{SectionState, section_in, has_block}
use Rattle.rw_blocks.specs.State.{QueueState, row_at}
use Rattle.rw_blocks.specs.Tags.{IsOnlyIn, IsAbsent}
use Rattle.rw_blocks.specs.Weights.{weight_in, IsWeighed}
use Rattle.rw_blocks.proofs.Weighed.{IsWeighed-remove, row-le-weight}
use Rattle.rw_blocks.proofs.Present.{row-there}
use Rattle.rw_blocks.proofs.queue.Queue.take_row.Goals as goal

pub unwrap-section-requires : goal.unwrap-section-requires
unwrap-section-requires c =
    let found : row_at c.args.self.now c.args.object ≡ Some c.remove-row.result = ap (λ (z : QueueState). row_at z c.args.object) (sym c.self.view_is) ∙ c.remove-row.ensures.row in
    let absent : IsNone c.section_of.result → IsAbsent c.remove-row.result.place c.args.self.now.sections =
    λ none. subst (λ (z : QueueState). IsAbsent c.remove-row.result.place z.sections) c.self.view_is (c.section_of.ensures.none none) in
    row-there c.args.self.now c.args.object c.remove-row.result c.section_of.result c.requires.loose found absent

at_some : (o : Option ℕ) (i : ℕ) (P : ℕ → Type 0) → o ≡ Some i → IfSome o P → P i
at_some o i P e h = let g = rw e at h in g

pub overflow_sub-index_mut : goal.overflow_sub-index_mut
overflow_sub-index_mut c =
    let rows : List (ℕ × Place) = c.self.inside.rows in
    let ss : List SectionState = c.self.inside.sections in
    let bs : List ℕ = c.self.inside.bytes.items in
    let i : ℕ = c.unwrap-section.result in
    let r : Place = c.remove-row.result in
    let is : c.section_of.result ≡ Some i = c.unwrap-section.ensures in
    let within : i < length ss = at_some c.section_of.result i (λ j. j < length ss) is c.section_of.ensures.there in
    let w : IsWeighed rows ss bs = c.self.invariant.1 (omega arith) in
    let long : length bs ≡ length ss = w.long in
    let here : has_block r.place (section_in ss i) ≡ true = at_some c.section_of.result i (λ j. has_block r.place (section_in ss j) ≡ true) is c.section_of.ensures.here in
    let read : c.index_mut.result.now ≡ get_or bs i 0 = c.index_mut.ensures.value ∙ get_or_default bs i c.index_mut.result.now 0 (omega arith) in
    let each : get_or bs i 0 ≡ weight_in rows (section_in ss i) = w.each i within in
    let le : r.size ≤ weight_in rows (section_in ss i) = row-le-weight rows (section_in ss i) c.args.object r c.remove-row.ensures.row here in
    omega (arith, read, each, le)

pub invariant_of-self : goal.invariant_of-self
invariant_of-self c =
    let rows : List (ℕ × Place) = c.self.inside.rows in
    let ss : List SectionState = c.self.inside.sections in
    let bs : List ℕ = c.self.inside.bytes.items in
    let i : ℕ = c.unwrap-section.result in
    let r : Place = c.remove-row.result in
    let is : c.section_of.result ≡ Some i = c.unwrap-section.ensures in
    let within : i < length ss = at_some c.section_of.result i (λ j. j < length ss) is c.section_of.ensures.there in
    let w : IsWeighed rows ss bs = c.self.invariant.1 (omega arith) in
    let long : length bs ≡ length ss = w.long in
    let here : has_block r.place (section_in ss i) ≡ true = at_some c.section_of.result i (λ j. has_block r.place (section_in ss j) ≡ true) is c.section_of.ensures.here in
    let read : c.index_mut.result.now ≡ get_or bs i 0 = c.index_mut.ensures.value ∙ get_or_default bs i c.index_mut.result.now 0 (omega arith) in
    let each : get_or bs i 0 ≡ weight_in rows (section_in ss i) = w.each i within in
    let le : r.size ≤ weight_in rows (section_in ss i) = row-le-weight rows (section_in ss i) c.args.object r c.remove-row.ensures.row here in
    let only : IsOnlyIn i r.place ss = at_some c.section_of.result i (λ j. IsOnlyIn j r.place ss) is c.section_of.ensures.only in (
      c.self.invariant.0,
      λ some. rw c.remove-row.ensures.rest
          (IsWeighed-remove rows ss bs c.args.object i (c.index_mut.result.now - r.size) r w c.remove-row.ensures.row within here only (omega (arith, read, each, le))),
    )
