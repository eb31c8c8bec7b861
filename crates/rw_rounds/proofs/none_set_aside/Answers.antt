use Rattle.std.proofs.Common.{◌+◌, ◌∙◌, ap, arith}
use Rattle.rw_pool.proofs.Sums.{total_same}
use Rattle.rw_vt.proofs.Laws.{laws_of}
use Rattle.rw_rounds.specs.Bags.{weigh}
use Rattle.rw_rounds.specs.Rounds.{weigh_left}
use Rattle.rw_rounds.proofs.Joining.{none_aside}
use Rattle.rw_rounds.proofs.none_set_aside.Goals as goal

pub returns : goal.returns
returns g c = λ plan x z floor ranges whole round.
    let none = none_aside (laws_of g.met.M.Model g.met.M.Body.Ord.total) plan x z floor ranges whole round in
    record {
      none_aside = none;
      letters_are = λ h.
          round.letters_are h
          ∙ ap (λ n. weigh_left plan.workers h round.left + n)
          (total_same plan.workers (λ i. weigh h (round.last i).kept + weigh h (round.last i).aside) (λ i. weigh h (round.last i).kept)
          (λ i l. let gone = ap (weigh h) (none i l) in omega (arith, gone)));
    }
