use Rattle.std.proofs.Common.{◌≡◌, ℕ, ◌+◌, ◌++◌, length, map, sym, ap, ◌∙◌, add-one, arith}
use Rattle.rw_vt.specs.System.{flatten}
use Rattle.rw_exchange.specs.Ports.{entry}
use Rattle.rw_pool.specs.Sums.{sum_below}
use Rattle.rw_rounds.specs.Bags.{weigh}
use Rattle.rw_rounds.proofs.Cited.{weigh-append}
use Rattle.rw_rounds.proofs.gathering.join_letters.Goals as goal

pub loop-from-preserved : goal.loop-from-preserved
loop-from-preserved g c h =
    let f : ℕ → ℕ = λ i. sum_below (length c.args.left.now) (λ k. weigh h (entry c.args.left.now i k)) in
    c.in_ok-add_sent.ensures.more h ∙ ap (λ w. w + f c.loop-from.from) (c.loop-from.invariant h) ∙ ap (λ n. sum_below n f) (sym (add-one c.loop-from.from))

pub returns : goal.returns
returns g c = record {
  all = λ h.
      let n = length c.args.left.now in
      let all : c.loop-from.from ≡ n = omega (arith, c.workers-from-end.ensures.count) in
      let kept = flatten (map (λ k. k.items) c.args.kept.now) in
      let aside = flatten (map (λ a. a.items) c.args.aside.now) in
      ap (weigh h) (c.in_ok-add_all-2.ensures.more ∙ ap (λ ls. ls ++ aside) c.in_ok-add_all.ensures.more)
      ∙ weigh-append h (c.loop-from.letters.items ++ kept) aside
      ∙ ap (λ w. w + weigh h aside) (weigh-append h c.loop-from.letters.items kept)
      ∙ ap (λ w. w + weigh h kept + weigh h aside) (c.loop-from.invariant h ∙ ap (λ m. sum_below m (λ i. sum_below n (λ k. weigh h (entry c.args.left.now i k)))) all);
}
