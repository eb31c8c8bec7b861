use Rattle.std.proofs.Common.{ℕ, ◌+◌, sym, ap, ◌∙◌, add_assoc, add-one}
use Rattle.rw_exchange.specs.Ports.{entry}
use Rattle.rw_pool.specs.Sums.{sum_below}
use Rattle.rw_rounds.specs.Bags.{weigh}
use Rattle.rw_rounds.proofs.Cited.{weigh-append}
use Rattle.rw_rounds.proofs.gathering.add_sent.Goals as goal

pub loop-to-preserved : goal.loop-to-preserved
loop-to-preserved g c h =
    let f : ℕ → ℕ = λ k. weigh h (entry c.args.left.now c.args.from k) in
    let more = c.between.result.now in
    let start = weigh h c.args.letters.now.items in
    ap (weigh h) c.in_ok-extend_from_slice.ensures.items
    ∙ weigh-append h c.loop-to.letters.items more
    ∙ ap (λ w. w + weigh h more) (c.loop-to.invariant h)
    ∙ ap (λ w. start + sum_below c.loop-to.to f + w) (ap (weigh h) c.between.ensures.letters)
    ∙ add_assoc start (sum_below c.loop-to.to f) (f c.loop-to.to)
    ∙ ap (λ n. start + sum_below n f) (sym (add-one c.loop-to.to))
