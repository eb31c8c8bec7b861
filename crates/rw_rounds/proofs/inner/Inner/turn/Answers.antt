use Rattle.std.proofs.Common.{◌≡◌, ◌+◌, ◌<◌, ◌≤◌, [], ◌∙◌, subst, arith}
use Rattle.std.proofs.lemmas.Result.{IfOk-weaker}
use Rattle.rw_vt.specs.System.{rules}
use Rattle.rw_rounds.specs.Working.{role_of, worker_of, DealsWithAll, HeldBack}
use Rattle.rw_rounds.proofs.Adding.{works_then}
use Rattle.rw_rounds.proofs.Dealt.{dealt_then}
use Rattle.rw_rounds.proofs.inner.Inner.turn.Goals as goal

pub returns-clause-works : goal.returns-clause-works
returns-clause-works g c =
    let x = c.args.self.now in
    let model = g.M.Model in
    let order = g.M.Body.Ord.cmp in
    let context = c.args.context.now in
    let letters = c.args.at_hand.now.items in
    let y = rules model order context.model.now in
    let offered = works_then y (role_of x) (worker_of x) (worker_of c.deal.new.self) (worker_of c.offer_kept.new.self) letters [] [] 0 0 c.in_ok-deal.ensures.works.works c.in_ok-offer_kept.ensures.works in
    let received = dealt_then model order context x c.offer_kept.new.self c.receive_all.new.self letters c.receive_all.new.at_hand.items 0 0 offered c.in_ok-receive_all.ensures.works in
    IfOk-weaker c.execute_some.result _ _
    (λ n w.
    let sum : 0 + n ≡ n = omega arith in
    subst (DealsWithAll model order context x c.execute_some.new.self letters c.execute_some.new.at_hand.items) sum
    (dealt_then model order context x c.receive_all.new.self c.execute_some.new.self letters c.execute_some.new.at_hand.items 0 n received.works w))
    c.execute_some.ensures.works

pub returns-clause-within : goal.returns-clause-within
returns-clause-within g c =
    let same : role_of c.receive_all.new.self ≡ role_of c.args.self.now = c.in_ok-receive_all.ensures.works.works.after ∙ c.in_ok-offer_kept.ensures.works.after ∙ c.in_ok-deal.ensures.works.works.after in
    IfOk-weaker c.execute_some.result _ _ (λ n h. subst (λ k. n ≤ k.plan.batch) same h) c.execute_some.ensures.within

pub returns-clause-held_back : goal.returns-clause-held_back
returns-clause-held_back g c =
    let after = c.execute_some.new.self in
    let same : role_of c.receive_all.new.self ≡ role_of c.args.self.now = c.in_ok-receive_all.ensures.works.works.after ∙ c.in_ok-offer_kept.ensures.works.after ∙ c.in_ok-deal.ensures.works.works.after in
    IfOk-weaker c.execute_some.result _ _
    (λ n h. subst (λ k. n < k.plan.batch → HeldBack (rules g.M.Model g.M.Body.Ord.cmp c.args.context.now.model.now) (after.seat.read + k.plan.window) after.processes.items) same h) c.execute_some.ensures.held_back
