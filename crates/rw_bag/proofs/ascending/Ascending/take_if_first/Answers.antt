use Rattle.std.proofs.Common.{◌<◌, refl, sym, ap, ◌∙◌, arith}
use Rattle.std.specs.Ordering.{is_ne}
use Rattle.rw_vt.specs.Order.{event_cmp}
use Rattle.rw_vt.proofs.EventOrder.{events_exact}
use Rattle.rw_vt.proofs.Sorting.{IsExactOrder}
use Rattle.rw_bag.proofs.Rising.{first_taken}
use Rattle.rw_bag.proofs.ascending.Ascending.take_if_first.Goals as goal

pub returns-clause-taken : goal.returns-clause-taken
returns-clause-taken g c h =
    let o : IsExactOrder (event_cmp g.M.Body.Ord.cmp) = events_exact (record { total = g.met.M.Body.Ord.total; same = g.met.M.Model.same }) in
    let cmp = event_cmp g.M.Body.Ord.cmp in
    let e = c.args.event in
    let first = c.in-Some.first.now in
    let events = c.self.inside.events in
    let some : 0 < events.len = c.in-Some.ensures.variant.0 refl in
    sym c.self.view_is ∙ first_taken o e first events.items c.pop_front-taken.new.self.items (omega (arith, events.ok.0, some)) c.in-Some.ensures.lookup (sym (c.is_ne.ensures ∙ ap is_ne c.cmp.ensures) ∙ c.if-is_ne.false) c.pop_front-taken.ensures.rest
