use Rattle.std.proofs.Common.{◌<◌, ◌++◌, [], ◌∷◌, ◌∙◌, ap, subst, sym, take, arith}
use Rattle.std.proofs.lemmas.List.{take_all, take_more}
use Rattle.rw_windows.specs.Working.{IsDealt}
use Rattle.rw_windows.proofs.Dealing.{dealt_none, dealt_then}
use Rattle.rw_windows.proofs.worker.Worker.deal.Goals as goal

pub loop-event-init : goal.loop-event-init
loop-event-init g c = dealt_none c.args.self.now

pub loop-event-preserved : goal.loop-event-preserved
loop-event-preserved g c =
    let es = c.args.sent.now in
    let n = c.loop-event.event-index in
    let e = c.event-item.result in
    subst (IsDealt c.args.self.now c.deal_one.new.self) (sym (take_more es n e c.loop-event-test.true ∙ ap (λ w. take n es ++ w ∷ []) (sym c.event-item.is)))
    (dealt_then c.args.self.now c.loop-event.self c.deal_one.new.self (take n es) (e ∷ []) c.loop-event.invariant c.in_ok-deal_one.ensures.dealt)

pub deal_one-requires-clause-number : goal.deal_one-requires-clause-number
deal_one-requires-clause-number g c = subst (λ w. w.number < w.workers) (sym c.loop-event.invariant.same) c.requires.number

pub deal_one-requires-clause-lists : goal.deal_one-requires-clause-lists
deal_one-requires-clause-lists g c =
    let dealt = c.loop-event.invariant in
    dealt.lists ∙ c.requires.lists ∙ sym (ap (λ w. w.workers) dealt.same)

pub deal_one-requires-clause-later : goal.deal_one-requires-clause-later
deal_one-requires-clause-later g c =
    let e = c.event-item.result in
    subst (λ w. w.reached < e.time) (sym c.loop-event.invariant.same)
    (subst (λ a. c.args.self.now.reached < a.time) (sym c.event-item.is) (c.requires.later c.loop-event.event-index e c.loop-event-test.true))

pub returns : goal.returns
returns g c = record {
  dealt = subst (IsDealt c.args.self.now c.loop-event.self) (take_all c.loop-event.event-index c.args.sent.now (omega (arith, c.loop-event-test.false))) c.loop-event.invariant;
}
