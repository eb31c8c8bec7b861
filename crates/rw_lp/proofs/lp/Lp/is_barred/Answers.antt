use Rattle.std.proofs.Common.{subst, take, drop}
use Rattle.rw_vt.specs.Order.{event_cmp, IsAscending}
use Rattle.rw_vt.proofs.Bags.{IsAscending-back}
use Rattle.rw_vt.proofs.EventOrder.{events_exact}
use Rattle.rw_vt.proofs.Sorting.{IsExactOrder}
use Rattle.rw_lp.specs.Calls.{LogicalProcess}
use Rattle.rw_lp.proofs.lp.Lp.is_barred.Goals as goal

pub returns-then-holds-clause-order : goal.returns-then-holds-clause-order
returns-then-holds-clause-order g c =
    let o : IsExactOrder (event_cmp g.M.Body.Ord.cmp) = events_exact (record { total = g.met.M.Body.Ord.total; same = g.met.M.Model.same }) in
    let p = c.self.inside.history.value in
    subst (λ (w : LogicalProcess g.row.M.Denot g.row.M-State.Denot g.row.M-Body.Denot). IsAscending (event_cmp g.M.Body.Ord.cmp) w.process.processed) c.self.view_is (IsAscending-back o (take p.cut p.done.items) (drop p.cut p.done.items) c.self.invariant.0.linked.order)

pub returns-else-holds-clause-order : goal.returns-else-holds-clause-order
returns-else-holds-clause-order g c =
    let o : IsExactOrder (event_cmp g.M.Body.Ord.cmp) = events_exact (record { total = g.met.M.Body.Ord.total; same = g.met.M.Model.same }) in
    let p = c.self.inside.history.value in
    subst (λ (w : LogicalProcess g.row.M.Denot g.row.M-State.Denot g.row.M-Body.Denot). IsAscending (event_cmp g.M.Body.Ord.cmp) w.process.processed) c.self.view_is (IsAscending-back o (take p.cut p.done.items) (drop p.cut p.done.items) c.self.invariant.0.linked.order)

pub returns-else-letter-clause-order : goal.returns-else-letter-clause-order
returns-else-letter-clause-order g c =
    let o : IsExactOrder (event_cmp g.M.Body.Ord.cmp) = events_exact (record { total = g.met.M.Body.Ord.total; same = g.met.M.Model.same }) in
    let p = c.self.inside.history.value in
    subst (λ (w : LogicalProcess g.row.M.Denot g.row.M-State.Denot g.row.M-Body.Denot). IsAscending (event_cmp g.M.Body.Ord.cmp) w.process.processed) c.self.view_is (IsAscending-back o (take p.cut p.done.items) (drop p.cut p.done.items) c.self.invariant.0.linked.order)
