use Rattle.std.proofs.Common.{refl, sym, ◌∙◌}
use Rattle.rw_blocks.proofs.shape.Shape.new.Goals as goal
use Rattle.rw_blocks.proofs.shape.Shape.new.Goals.{else-is_in_range-via-then-is_in_range+then-is_in_range-2+else-is_in_range-3, else-is_in_range-via-then-is_in_range+else-is_in_range-2, else-is_in_range-via-else-is_in_range}

pub invariant_of-result : goal.invariant_of-result
invariant_of-result c =
    let sections = c.is_in_range.ensures.0 c.if-is_in_range.true in
    let block = c.is_in_range-then-is_in_range.ensures.0 c.if-is_in_range-2.true in
    let blocks = c.is_in_range-then-is_in_range-2.ensures.0 c.if-is_in_range-3.true in
    (sections.0, sections.1, block.0, block.1, blocks.0, blocks.1)

pub returns-then-is_in_range-3-clause-in_range : goal.returns-then-is_in_range-3-clause-in_range
returns-then-is_in_range-3-clause-in_range c =
    let sections = c.is_in_range.ensures.0 c.if-is_in_range.true in
    let block = c.is_in_range-then-is_in_range.ensures.0 c.if-is_in_range-2.true in
    let blocks = c.is_in_range-then-is_in_range-2.ensures.0 c.if-is_in_range-3.true in
    (λ _. (sections.0, sections.1, block.0, block.1, blocks.0, blocks.1), λ _. refl)

pub returns-else-is_in_range-clause-in_range : goal.returns-else-is_in_range-clause-in_range
returns-else-is_in_range-clause-in_range c = (
  λ e. absurd (cc),
  λ all. elim c.else-is_in_range.branch [
    | else-is_in_range-via-then-is_in_range+then-is_in_range-2+else-is_in_range-3 w ↦ sym w.if-is_in_range-3.false ∙ w.is_in_range-then-is_in_range-2.ensures.1 (all.4, all.5)
    | else-is_in_range-via-then-is_in_range+else-is_in_range-2 w ↦ sym w.if-is_in_range-2.false ∙ w.is_in_range-then-is_in_range.ensures.1 (all.2, all.3)
    | else-is_in_range-via-else-is_in_range w ↦ sym w.if-is_in_range.false ∙ c.is_in_range.ensures.1 (all.0, all.1)
  ],
)
