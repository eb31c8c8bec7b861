use Rattle.std.proofs.Common.{sym, ap, ◌∙◌, subst}
use Rattle.rw_vt.specs.Order.{event_cmp, AtMost, Each}
use Rattle.rw_vt.proofs.EventOrder.{events_exact, time_at_most}
use Rattle.rw_vt.proofs.Sorting.{IsExactOrder}
use Rattle.rw_bag.specs.Bags.{least_time}
use Rattle.rw_bag.proofs.Least.{least_first}
use Rattle.rw_bag.proofs.bag.Bag.least_time.Goals as goal

pub returns-in-Some : goal.returns-in-Some
returns-in-Some g c =
    let o : IsExactOrder (event_cmp g.M.Body.Ord.cmp) = events_exact (record { total = g.met.M.Body.Ord.total; same = g.met.M.Model.same }) in
    let cmp = event_cmp g.M.Body.Ord.cmp in
    let e = c.in-Some.event.now in
    let first = c.in-Some.ensures.first in
    c.min.ensures
    ∙ sym (ap (least_time 1099511627776) first.1 ∙ least_first o (time_at_most g.M.Body.Ord.cmp) 1099511627776 e first.0 (subst (Each cmp (λ x. AtMost cmp e x)) first.1 c.in-Some.ensures.least.1))
