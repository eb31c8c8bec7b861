use Rattle.std.proofs.Common.{◌<◌, ◌-◌, refl, sym, ap, ◌∙◌, subst, arith}
use Rattle.std.specs.Ordering.{is_le}
use Rattle.rw_vt.specs.Order.{event_cmp, AtMost, Each}
use Rattle.rw_vt.proofs.EventOrder.{events_exact}
use Rattle.rw_vt.proofs.Sorting.{IsExactOrder}
use Rattle.rw_bag.proofs.Orderings.{le_not_gt}
use Rattle.rw_bag.proofs.Rising.{all_below}
use Rattle.rw_bag.proofs.ascending.Ascending.follows.Goals as goal

pub returns-clause-order : goal.returns-clause-order
returns-clause-order g c h =
    let o : IsExactOrder (event_cmp g.M.Body.Ord.cmp) = events_exact (record { total = g.met.M.Body.Ord.total; same = g.met.M.Model.same }) in
    let cmp = event_cmp g.M.Body.Ord.cmp in
    let e = c.args.event in
    let last = c.in-Some.last.now in
    let events = c.self.inside.events in
    let some : 0 < events.len = c.in-Some.ensures.variant.0 refl in
    let below : AtMost cmp last e = le_not_gt (cmp last e) (sym (c.is_le.ensures ∙ ap is_le c.cmp.ensures) ∙ h) in
    subst (Each cmp (λ y. AtMost cmp y e)) c.self.view_is (all_below o e events.items (events.len - 1) last c.self.invariant.0 (omega (arith, events.ok.0, some)) (subst (λ y. AtMost cmp y e) c.in-Some.ensures.lookup below))
