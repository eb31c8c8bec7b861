use Rattle.std.proofs.Common.{arith, ap, ◌∙◌}
use Rattle.rw_vt.specs.Order.{event_cmp, without}
use Rattle.rw_vt.proofs.EventOrder.{events_exact}
use Rattle.rw_vt.proofs.Sorting.{IsExactOrder}
use Rattle.rw_lp.proofs.HeldRuns.{forgotten_more}
use Rattle.rw_lp.specs.declared.held.Held.{Held}
use Rattle.rw_lp.proofs.held_back.forget.Goals as goal

pub loop-pair-preserved : goal.loop-pair-preserved
loop-pair-preserved g c =
    let o : IsExactOrder (event_cmp g.M.Body.Ord.cmp) = events_exact (record { total = g.met.M.Body.Ord.total; same = g.met.M.Model.same }) in
    forgotten_more o c.args.pairs.now c.loop-pair.pair-index c.pair-item.result c.loop-pair.messages c.take-taken.new.self c.args.messages.now (omega (arith, c.loop-pair-test.true)) c.loop-pair.invariant c.requires.there
    (c.take-taken.ensures.rest ∙ ap (λ (p : Held g.row.M-Body.Denot). without (event_cmp g.M.Body.Ord.cmp) p.message c.loop-pair.messages) c.pair-item.is)
