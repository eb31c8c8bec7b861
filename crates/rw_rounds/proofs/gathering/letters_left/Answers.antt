use Rattle.std.proofs.Common.{ℕ, ◌+◌, ◌<◌, length, map, sym, ap, ◌∙◌, subst}
use Rattle.std.proofs.lemmas.Result.{IfOk-weaker}
use Rattle.rw_vt.specs.System.{flatten}
use Rattle.rw_exchange.specs.Ports.{entry}
use Rattle.rw_pool.specs.Sums.{sum_below}
use Rattle.rw_rounds.specs.Bags.{weigh}
use Rattle.rw_rounds.proofs.gathering.letters_left.Goals as goal

pub returns : goal.returns
returns g c =
    let left = c.in_ok-left.left in
    let its = c.in_ok-left.ensures in
    let ports = c.args.ports in
    let kept = c.args.kept.items in
    let rings : ℕ → (_ → ℕ) → ℕ = λ n h. sum_below n (λ i. sum_below n (λ k. weigh h (entry left i k))) in
    record {
      left = IfOk-weaker c.join_letters.result _ _
          (λ all joined. (
            (λ i k. entry left i k),
            (λ i k li lk. its.fifo i k (subst (λ n. i < n) (sym ports.ok.0) li) (subst (λ n. k < n) (sym ports.ok.0) lk)),
            λ h. joined h
                ∙ ap (λ n. rings n h + weigh h (flatten (map (λ k. k.items) c.deref.result.now)) + weigh h (flatten (map (λ a. a.items) c.deref-2.result.now))) (its.count ∙ ports.ok.0)
                ∙ ap (λ z. rings (length ports.items) h + weigh h (flatten (map (λ k. k.items) z)) + weigh h (flatten (map (λ a. a.items) c.deref-2.result.now))) c.deref.ensures.value
                ∙ ap (λ z. rings (length ports.items) h + weigh h (flatten (map (λ k. k.items) kept)) + weigh h (flatten (map (λ a. a.items) z))) c.deref-2.ensures.value,
          )) c.join_letters.ensures.all;
    }
