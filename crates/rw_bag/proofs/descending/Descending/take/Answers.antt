use Rattle.std.proofs.Common.{◌≡◌, reverse, sym, ap, ◌∙◌, subst}
use Rattle.rw_vt.specs.Order.{event_cmp, without, IsAscending}
use Rattle.rw_vt.proofs.EventOrder.{events_exact}
use Rattle.rw_vt.proofs.Sorting.{IsExactOrder}
use Rattle.rw_vt.proofs.Bags.{IsAscending-without}
use Rattle.rw_bag.proofs.Falling.{removed, present, without_absent}
use Rattle.rw_bag.proofs.descending.Descending.take.Goals as goal

pub returns-in_default-clause-rest : goal.returns-in_default-clause-rest
returns-in_default-clause-rest g c = sym (without_absent (event_cmp g.M.Body.Ord.cmp) c.args.event c.args.self.now (sym c.in_default.ensures.there))

pub invariant_of-self : goal.invariant_of-self
invariant_of-self g c =
    let o : IsExactOrder (event_cmp g.M.Body.Ord.cmp) = events_exact (record { total = g.met.M.Body.Ord.total; same = g.met.M.Model.same }) in
    let taken : reverse c.remove-taken.new.self.items ≡ without (event_cmp g.M.Body.Ord.cmp) c.args.event c.args.self.now =
    ap reverse c.remove-taken.ensures.items ∙ removed (event_cmp g.M.Body.Ord.cmp) c.args.event c.self.inside.events.items c.args.self.now c.in-Some.at c.self.view_is c.in-Some.ensures.at in
    subst (IsAscending (event_cmp g.M.Body.Ord.cmp)) (sym taken) (IsAscending-without o c.args.event c.args.self.now (subst (IsAscending (event_cmp g.M.Body.Ord.cmp)) c.self.view_is c.self.invariant))

pub returns-clause-there : goal.returns-clause-there
returns-clause-there g c = sym (present (event_cmp g.M.Body.Ord.cmp) c.args.event c.args.self.now c.in-Some.at c.in-Some.ensures.at)

pub returns-clause-rest : goal.returns-clause-rest
returns-clause-rest g c =
    ap reverse c.remove-taken.ensures.items ∙ removed (event_cmp g.M.Body.Ord.cmp) c.args.event c.self.inside.events.items c.args.self.now c.in-Some.at c.self.view_is c.in-Some.ensures.at
