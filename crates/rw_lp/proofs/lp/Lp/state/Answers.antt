use Rattle.std.proofs.Common.{◌≡◌, subst, ◌++◌}
use Rattle.rw_vt.specs.Order.{event_cmp}
use Rattle.rw_vt.specs.System.{state_after}
use Rattle.rw_vt.proofs.EventOrder.{events_exact}
use Rattle.rw_vt.proofs.Sorting.{IsExactOrder}
use Rattle.rw_lp.specs.Cut.{seen_of}
use Rattle.rw_lp.specs.Calls.{LogicalProcess}
use Rattle.rw_lp.proofs.Chains.{linked_after}
use Rattle.rw_lp.proofs.lp.Lp.state.Goals as goal

pub returns-clause-fold : goal.returns-clause-fold
returns-clause-fold g c =
    let o : IsExactOrder (event_cmp g.M.Body.Ord.cmp) = events_exact (record { total = g.met.M.Body.Ord.total; same = g.met.M.Model.same }) in
    let p = c.self.inside.history.value in
    subst (λ (w : LogicalProcess g.row.M.Denot g.row.M-State.Denot g.row.M-Body.Denot). w.process.state ≡ state_after (g.M.Model.step w.model w.number) w.process.start (w.process.committed ++ w.process.processed)) c.self.view_is
    (linked_after g.M.Model o (seen_of p) p.records c.self.invariant.0.linked)
