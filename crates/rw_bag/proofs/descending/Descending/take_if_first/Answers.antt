use Rattle.std.proofs.Common.{◌≡◌, ◌∷◌, reverse, sym, ap, ◌∙◌, subst}
use Rattle.std.specs.Ordering.{is_ne}
use Rattle.rw_vt.specs.Order.{event_cmp, IsAscending}
use Rattle.rw_vt.proofs.EventOrder.{events_exact}
use Rattle.rw_vt.proofs.Sorting.{IsExactOrder, tied}
use Rattle.rw_bag.proofs.Falling.{last_taken}
use Rattle.rw_bag.proofs.Orderings.{eq_if}
use Rattle.rw_bag.proofs.descending.Descending.take_if_first.Goals as goal

pub invariant_of-self : goal.invariant_of-self
invariant_of-self g c =
    let taken =
    last_taken c.in-Some.first.now c.self.inside.events.items c.deref.result.now c.pop-taken.new.self.items c.pop-taken.result c.self.inside.events.len c.deref.ensures.value c.deref.ensures.len
    c.in-Some.ensures.item.3.0 c.in-Some.ensures.item.1 (c.pop-taken.ensures.value c.in-Some.first.now) c.pop-taken.ensures.items in
    (subst (IsAscending (event_cmp g.M.Body.Ord.cmp)) taken c.self.invariant).1

pub returns-clause-taken : goal.returns-clause-taken
returns-clause-taken g c h =
    let o : IsExactOrder (event_cmp g.M.Body.Ord.cmp) = events_exact (record { total = g.met.M.Body.Ord.total; same = g.met.M.Model.same }) in
    let first = c.in-Some.first.now in
    let taken =
    last_taken first c.self.inside.events.items c.deref.result.now c.pop-taken.new.self.items c.pop-taken.result c.self.inside.events.len c.deref.ensures.value c.deref.ensures.len
    c.in-Some.ensures.item.3.0 c.in-Some.ensures.item.1 (c.pop-taken.ensures.value first) c.pop-taken.ensures.items in
    let same : c.args.event ≡ first = tied o c.args.event first (eq_if (event_cmp g.M.Body.Ord.cmp c.args.event first) (sym (c.is_ne.ensures ∙ ap is_ne c.cmp.ensures) ∙ c.if-is_ne.false)) in
    sym c.self.view_is ∙ taken ∙ ap (λ e. e ∷ reverse c.pop-taken.new.self.items) (sym same)
