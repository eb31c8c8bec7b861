use Rattle.std.proofs.Common.{arith, sym, append-nil, ap, ◌∙◌, ◌++◌, ◌∷◌, []}
use Rattle.std.proofs.lemmas.List.{take_all}
use Rattle.rw_lp.specs.HeldMessages.{held_messages}
use Rattle.rw_lp.proofs.HeldRuns.{given_more}
use Rattle.rw_lp.specs.declared.held.Held.{Held}
use Rattle.rw_lp.proofs.held_back.HeldBack.give_to.Goals as goal

pub loop-pair-preserved : goal.loop-pair-preserved
loop-pair-preserved g c =
    given_more c.as_slice-pairs.result.now c.loop-pair.pair-index c.pair-item.result c.args.out.now.items c.loop-pair.out.items c.push.new.self.items (omega (arith, c.loop-pair-test.true)) c.loop-pair.invariant
    (c.in_ok-push.ensures.items ∙ ap (λ (p : Held g.row.M-Body.Denot). c.loop-pair.out.items ++ p.message ∷ []) c.pair-item.is)

pub loop-pair-init : goal.loop-pair-init
loop-pair-init g c = sym (append-nil c.args.out.now.items)

pub returns : goal.returns
returns g c = c.loop-pair.invariant ∙ ap (λ l. c.args.out.now.items ++ held_messages l) (take_all c.loop-pair.pair-index c.as_slice-pairs.result.now c.loop-pair-test.false ∙ c.as_slice-pairs.ensures.value ∙ c.self.view_is)
