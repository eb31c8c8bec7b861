use Rattle.std.proofs.Common.{subst}
use Rattle.rw_vt.specs.Order.{event_cmp}
use Rattle.rw_vt.proofs.EventOrder.{events_exact}
use Rattle.rw_vt.proofs.Sorting.{IsExactOrder}
use Rattle.rw_lp.specs.Cut.{seen_of}
use Rattle.rw_lp.specs.Calls.{LogicalProcess}
use Rattle.rw_lp.specs.Sound.{IsSoundOnceCollected, StartsWell}
use Rattle.rw_lp.proofs.Chains.{linked_after, linked_for}
use Rattle.rw_lp.proofs.Own.{sound_where}
use Rattle.rw_lp.proofs.lp.Lp.soundness.Goals as goal

pub returns-clause-starts : goal.returns-clause-starts
returns-clause-starts g c = subst (λ (w : LogicalProcess g.row.M.Denot g.row.M-State.Denot g.row.M-Body.Denot). StartsWell g.M.Model w) c.self.view_is (record { number = c.self.invariant.0.linked.number; start = c.self.invariant.0.linked.start })

pub returns-clause-sound : goal.returns-clause-sound
returns-clause-sound g c =
    let o : IsExactOrder (event_cmp g.M.Body.Ord.cmp) = events_exact (record { total = g.met.M.Body.Ord.total; same = g.met.M.Model.same }) in
    let p = c.self.inside.history.value in
    let linked = c.self.invariant.0.linked in
    subst (λ (w : LogicalProcess g.row.M.Denot g.row.M-State.Denot g.row.M-Body.Denot). IsSoundOnceCollected g.M.Model g.M.Body.Ord.cmp w) c.self.view_is
    (sound_where g.M.Model g.M.Body.Ord.cmp (seen_of p) c.self.inside.pending c.self.inside.debts c.self.inside.held.value linked.order (linked_after g.M.Model o (seen_of p) p.records linked) linked.committed (linked_for g.M.Model o (seen_of p) p.records linked) c.self.invariant.1 c.order.ensures c.order-2.ensures)
