use Rattle.std.proofs.Common.{arith, ap, ◌≡◌, ◌∙◌, ◌<◌, ◌+◌, ◌-◌, ◌^◌, ℕ, List, length, drop, take}
use Rattle.std.specs.Prelude.{sum}
use Rattle.std.proofs.lemmas.List.{take_rest}
use Rattle.rw_blocks.specs.State.{QueueState}
use Rattle.rw_blocks.specs.Sums.{bytes_below}
use Rattle.rw_blocks.specs.Weights.{IsWeighed}
use Rattle.rw_blocks.proofs.Sums.{below-fits}
use Rattle.rw_blocks.proofs.Weighed.{below-weights}
use Rattle.rw_blocks.proofs.queue.Queue.below.Goals as goal

pub sum-requires : goal.sum-requires
sum-requires c =
    let q : QueueState = record { shape = c.self.inside.shape; sections = c.self.inside.sections; rows = c.self.inside.rows; next = c.self.inside.next } in
    let i : ℕ = c.args.section in
    let view : q ≡ c.args.self.now = c.self.view_is in
    let there = c.requires.there in
    let within : i < length q.sections = omega (arith, ap (λ (z : QueueState). length z.sections) view) in
    let w : IsWeighed q.rows q.sections c.self.inside.bytes.items = c.self.invariant.1 (omega arith) in
    let same : sum (take (length c.deref.result.now - (i + 1)) (drop (i + 1) c.deref.result.now)) ≡ bytes_below c.args.self.now i =
    ap (λ (xs : List ℕ). sum xs) (take_rest c.deref.result.now (i + 1) ∙ ap (λ (xs : List ℕ). drop (i + 1) xs) c.deref.ensures.value)
    ∙ (below-weights q c.self.inside.bytes.items i w ∙ ap (λ (z : QueueState). bytes_below z i) view) in
    let fits : bytes_below c.args.self.now i < 2 ^ 64 = below-fits c.args.self.now i c.requires.loose in
    omega (arith, same, fits)

pub returns : goal.returns
returns c =
    let q : QueueState = record { shape = c.self.inside.shape; sections = c.self.inside.sections; rows = c.self.inside.rows; next = c.self.inside.next } in
    let i : ℕ = c.args.section in
    let view : q ≡ c.args.self.now = c.self.view_is in
    let there = c.requires.there in
    let within : i < length q.sections = omega (arith, ap (λ (z : QueueState). length z.sections) view) in
    let w : IsWeighed q.rows q.sections c.self.inside.bytes.items = c.self.invariant.1 (omega arith) in
    let same : sum (take (length c.deref.result.now - (i + 1)) (drop (i + 1) c.deref.result.now)) ≡ bytes_below c.args.self.now i =
    ap (λ (xs : List ℕ). sum xs) (take_rest c.deref.result.now (i + 1) ∙ ap (λ (xs : List ℕ). drop (i + 1) xs) c.deref.ensures.value)
    ∙ (below-weights q c.self.inside.bytes.items i w ∙ ap (λ (z : QueueState). bytes_below z i) view) in
    c.sum.ensures ∙ same
