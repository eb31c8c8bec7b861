use Rattle.std.proofs.Common.{arith, sym, ap, ◌≡◌, ◌∙◌, ◌<◌, ℕ, List, length}
use Rattle.std.proofs.lemmas.List.{get_or_default}
use Rattle.rw_blocks.specs.Sections.{section_in}
use Rattle.rw_blocks.specs.State.{QueueState}
use Rattle.rw_blocks.specs.Sums.{section_bytes}
use Rattle.rw_blocks.specs.Weights.{IsWeighed}
use Rattle.rw_blocks.proofs.Weighed.{bytes_in-weight}
use Rattle.rw_blocks.proofs.queue.Queue.bytes.Goals as goal

pub returns : goal.returns
returns c =
    let q : QueueState = record { shape = c.self.inside.shape; sections = c.self.inside.sections; rows = c.self.inside.rows; next = c.self.inside.next } in
    let i : ℕ = c.args.section in
    let bs : List ℕ = c.self.inside.bytes.items in
    let view : q ≡ c.args.self.now = c.self.view_is in
    let within : i < length q.sections = let there = c.requires.there in omega (arith, ap (λ (z : QueueState). length z.sections) view) in
    let w : IsWeighed q.rows q.sections bs = c.self.invariant.1 (omega arith) in
    let long : length bs ≡ length q.sections = w.long in
    c.index.ensures
    ∙ (get_or_default bs i c.index.result.now 0 (omega arith)
    ∙ (w.each i within
    ∙ (sym (bytes_in-weight q (section_in q.sections i))
    ∙ ap (λ (z : QueueState). section_bytes z i) view)))
