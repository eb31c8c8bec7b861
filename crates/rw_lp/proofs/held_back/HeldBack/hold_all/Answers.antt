use Rattle.std.proofs.Common.{arith, subst, sym, take}
use Rattle.std.specs.Prelude.{All}
use Rattle.rw_vt.specs.Order.{event_cmp, AtMost}
use Rattle.rw_vt.proofs.EventOrder.{events_exact}
use Rattle.rw_vt.proofs.Sorting.{IsExactOrder}
use Rattle.rw_lp.specs.declared.held.Held.{Held}
use Rattle.rw_lp.proofs.HeldRuns.{still_last, held_further}
use Rattle.rw_lp.proofs.held_back.HeldBack.hold_all.Goals as goal

pub hold_one-requires : goal.hold_one-requires
hold_one-requires g c = record {
  last =
      let o : IsExactOrder (event_cmp g.M.Body.Ord.cmp) = events_exact (record { total = g.met.M.Body.Ord.total; same = g.met.M.Model.same }) in
      subst (All (λ (h : Held g.row.M-Body.Denot). AtMost (event_cmp g.M.Body.Ord.cmp) c.args.event h.undone)) (sym c.loop-message.invariant) (still_last o c.args.event (take c.loop-message.message-index c.args.messages.now) c.args.self.now c.requires.last);
}

pub loop-message-preserved : goal.loop-message-preserved
loop-message-preserved g c =
    held_further c.args.event c.args.messages.now c.loop-message.message-index c.message-item.result c.args.self.now c.loop-message.self c.hold_one.new.self (omega (arith, c.loop-message-test.true))
    c.message-item.is c.loop-message.invariant c.in_ok-hold_one.ensures.held
