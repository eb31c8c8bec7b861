use Rattle.std.proofs.Common.{ℕ, ◌∙◌, ◌+◌, ◌-◌, ◌*◌, sym, ap, arith, inl, inr}
use Rattle.std.specs.Prelude.{nat_le}
use Rattle.rw_blocks.specs.Sums.{section_bytes, bytes_below}
use Rattle.rw_ripq.proofs.Fitting.{bytes-fit, below-fit}
use Rattle.rw_ripq.proofs.FromTail.{slru-found}
use Rattle.rw_ripq.proofs.levels.slru_target.Goals as goal

pub reaches-requires-clause-held : goal.reaches-requires-clause-held
reaches-requires-clause-held c =
    let i = c.loop-section.section in
    let bytes = bytes-fit c.args.queue.now i c.requires in
    let below = below-fit c.args.queue.now i c.requires c.loop-section.invariant.there in
    omega (arith, c.loop-section.invariant.held, bytes, below)

pub overflow_add-held : goal.overflow_add-held
overflow_add-held c =
    let i = c.loop-section.section in
    let bytes = bytes-fit c.args.queue.now i c.requires in
    let below = below-fit c.args.queue.now i c.requires c.loop-section.invariant.there in
    let next = bytes-fit c.args.queue.now (i - 1) c.requires in
    omega (arith, c.loop-section.invariant.held, bytes, below, next, c.bytes-held-in-loop-section.ensures)

pub returns-else-not-reaches-clause-target : goal.returns-else-not-reaches-clause-target
returns-else-not-reaches-clause-target c =
    let q = c.args.queue.now in
    let held = ap (λ (n : ℕ). nat_le (c.args.level * c.total-total.result) (c.args.levels.segments * n)) c.loop-section.invariant.held in
    let total = ap (λ (n : ℕ). nat_le (c.args.level * n) (c.args.levels.segments * (section_bytes q c.loop-section.section + bytes_below q c.loop-section.section))) c.total-total.ensures in
    slru-found c.args.levels q c.args.level c.loop-section.section (omega arith) c.loop-section.invariant.there c.loop-section.invariant.behind (inr (sym total ∙ (sym held ∙ (sym c.reaches.ensures ∙ c.if-not-reaches.false))))

pub returns-after-loop-section-clause-target : goal.returns-after-loop-section-clause-target
returns-after-loop-section-clause-target c =
    slru-found c.args.levels c.args.queue.now c.args.level c.loop-section.section (omega arith) c.loop-section.invariant.there c.loop-section.invariant.behind (inl (omega arith))
