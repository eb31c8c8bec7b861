use Rattle.std.proofs.Common.{sym, ◌∙◌, subst, true≢false}
use Rattle.rw_vt.specs.Order.{event_cmp, IsAscending, IsFirst}
use Rattle.rw_vt.proofs.EventOrder.{events_exact}
use Rattle.rw_vt.proofs.Sorting.{IsExactOrder}
use Rattle.rw_bag.proofs.Counting.{IsAscending-copies_of, first_counted, none_counted}
use Rattle.rw_bag.proofs.counted.CountedBag.first.Goals as goal

pub returns-in_err-event-clause-first : goal.returns-in_err-event-clause-first
returns-in_err-event-clause-first g c =
    let o : IsExactOrder (event_cmp g.M.Body.Ord.cmp) = events_exact (record { total = g.met.M.Body.Ord.total; same = g.met.M.Model.same }) in
    rw c.from_residual.ensures (sym c.self.view_is ∙ none_counted o c.self.inside.counts.entries (λ h. true≢false (sym (c.in_err-event.ensures.variant.1 h))))

pub returns-in_err-event-clause-order : goal.returns-in_err-event-clause-order
returns-in_err-event-clause-order g c =
    let o : IsExactOrder (event_cmp g.M.Body.Ord.cmp) = events_exact (record { total = g.met.M.Body.Ord.total; same = g.met.M.Model.same }) in
    subst (IsAscending (event_cmp g.M.Body.Ord.cmp)) c.self.view_is (IsAscending-copies_of o c.self.inside.counts.entries c.self.invariant.0)

pub returns-clause-first : goal.returns-clause-first
returns-clause-first g c =
    let o : IsExactOrder (event_cmp g.M.Body.Ord.cmp) = events_exact (record { total = g.met.M.Body.Ord.total; same = g.met.M.Model.same }) in
    let event = c.in_ok-event.event.now in
    let count = c.in_ok-event._count.now in
    subst (λ l. IsFirst l event) c.self.view_is (first_counted o event count c.self.inside.counts.entries c.in_ok-event.ensures.first (c.self.invariant.1 event count c.in_ok-event.ensures.value).0)

pub returns-clause-order : goal.returns-clause-order
returns-clause-order g c =
    let o : IsExactOrder (event_cmp g.M.Body.Ord.cmp) = events_exact (record { total = g.met.M.Body.Ord.total; same = g.met.M.Model.same }) in
    subst (IsAscending (event_cmp g.M.Body.Ord.cmp)) c.self.view_is (IsAscending-copies_of o c.self.inside.counts.entries c.self.invariant.0)
