use Rattle.std.proofs.Common.{◌≡◌, ◌∷◌, ◌++◌, map, sym, ap, ◌∙◌, arith}
use Rattle.std.proofs.lemmas.List.{length-map, nil_from_length}
use Rattle.rw_vt.specs.Order.{weigh}
use Rattle.rw_vt.specs.System.{flatten}
use Rattle.rw_pool.proofs.Lists.{all_walked}
use Rattle.rw_windows.proofs.Lists.{one_walked}
use Rattle.rw_windows.proofs.Sums.{weigh-append}
use Rattle.rw_windows.proofs.ending.take_apart.Goals as goal

pub loop-share-init : goal.loop-share-init
loop-share-init g c =
    let begin = c.into_iter-share-iterator.ensures.into_iter_gives.0 in
    let rest = c.into_iter-share-iterator.result.rest.items in
    record {
      shares = ap (λ z. map (λ h. h.items) z ++ map (λ w. w.states) rest) c.new.ensures.items ∙ ap (map (λ w. w.states)) begin;
      ports = ap (λ z. z ++ map (λ w. w.port) rest) c.new-2.ensures.items ∙ ap (map (λ w. w.port)) begin;
      events = λ h.
          let none = ap (weigh h) c.new-3.ensures.items in
          let all = ap (λ z. weigh h (flatten (map (λ w. w.waiting ++ flatten w.outbox) z))) begin in
          omega (arith, none, all);
    }

pub loop-share-preserved : goal.loop-share-preserved
loop-share-preserved g c =
    let known = c.loop-share.invariant in
    let w = c.in-Some.share in
    let rest' = c.next.new.self.rest.items in
    let r : c.loop-share.share-iterator.rest.items ≡ w ∷ rest' = c.in-Some.ensures.steps.0 in
    let more = c.in_ok-add.ensures in
    record {
      shares = one_walked _ _ _ (map (λ w. w.states) rest') _ w.states known.shares (ap (map (λ w. w.states)) r) more.shares;
      ports = one_walked _ _ _ (map (λ w. w.port) rest') _ w.port known.ports (ap (map (λ w. w.port)) r) more.ports;
      events = λ h.
          let all = known.events h in
          let left = ap (λ z. weigh h (flatten (map (λ w. w.waiting ++ flatten w.outbox) z))) r ∙ weigh-append h (w.waiting ++ flatten w.outbox) (flatten (map (λ w. w.waiting ++ flatten w.outbox) rest')) in
          omega (arith, all, left, more.events h);
    }

pub returns-clause-events : goal.returns-clause-events
returns-clause-events g c h =
    let rest = c.loop-share.share-iterator.rest in
    let none = nil_from_length rest.items (sym rest.ok.0 ∙ c.in-None.ensures.steps.0) in
    let all = c.loop-share.invariant.events h in
    let left = ap (λ z. weigh h (flatten (map (λ w. w.waiting ++ flatten w.outbox) z))) none in
    omega (arith, all, left)

pub returns-clause-shares : goal.returns-clause-shares
returns-clause-shares g c =
    let rest = c.loop-share.share-iterator.rest in
    all_walked _ _ _ c.loop-share.invariant.shares (length-map rest.items (λ w. w.states) ∙ sym rest.ok.0 ∙ c.in-None.ensures.steps.0)

pub returns-clause-ports : goal.returns-clause-ports
returns-clause-ports g c =
    let rest = c.loop-share.share-iterator.rest in
    all_walked _ _ _ c.loop-share.invariant.ports (length-map rest.items (λ w. w.port) ∙ sym rest.ok.0 ∙ c.in-None.ensures.steps.0)
