use Rattle.std.proofs.Common.{sym, ap, ◌∙◌}
use Rattle.std.specs.Ordering.{is_le}
use Rattle.rw_vt.specs.Order.{event_cmp}
use Rattle.rw_vt.proofs.EventOrder.{events_exact}
use Rattle.rw_vt.proofs.Sorting.{IsExactOrder}
use Rattle.rw_bag.proofs.Together.{first_least}
use Rattle.rw_bag.proofs.Orderings.{le_not_gt}
use Rattle.rw_bag.proofs.descending.Descending.leads.Goals as goal

pub returns : goal.returns
returns g c h =
    let o : IsExactOrder (event_cmp g.M.Body.Ord.cmp) = events_exact (record { total = g.met.M.Body.Ord.total; same = g.met.M.Model.same }) in
    let first = c.in-Some.first.now in
    first_least o c.args.event first c.args.self.now (le_not_gt (event_cmp g.M.Body.Ord.cmp c.args.event first) (sym (c.is_le.ensures ∙ ap is_le c.cmp.ensures) ∙ h)) c.in-Some.ensures.first c.first.ensures.order
