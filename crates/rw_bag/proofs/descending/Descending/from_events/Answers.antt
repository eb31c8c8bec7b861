use Rattle.std.proofs.Common.{◌≡◌, reverse, sym, ap, ◌∙◌, subst}
use Rattle.std.proofs.lemmas.List.{reverse-reverse}
use Rattle.rw_vt.specs.Order.{event_cmp, IsAscending}
use Rattle.rw_vt.proofs.EventOrder.{events_exact}
use Rattle.rw_vt.proofs.Sorting.{IsExactOrder}
use Rattle.rw_bag.proofs.Sorts.{sorted_ascending, sorted_is}
use Rattle.rw_bag.proofs.descending.Descending.from_events.Goals as goal

pub invariant_of-result : goal.invariant_of-result
invariant_of-result g c =
    let o : IsExactOrder (event_cmp g.M.Body.Ord.cmp) = events_exact (record { total = g.met.M.Body.Ord.total; same = g.met.M.Model.same }) in
    let sorted : reverse c.reverse.new.self.items ≡ c.sort.new.self.items = ap reverse c.reverse.ensures.items ∙ reverse-reverse c.sort.new.self.items in
    subst (IsAscending (event_cmp g.M.Body.Ord.cmp)) (sym sorted) (sorted_ascending o c.sort.new.self.items c.in_ok-sort.ensures.sorted)

pub returns : goal.returns
returns g c =
    let o : IsExactOrder (event_cmp g.M.Body.Ord.cmp) = events_exact (record { total = g.met.M.Body.Ord.total; same = g.met.M.Model.same }) in
    let sorted : reverse c.reverse.new.self.items ≡ c.sort.new.self.items = ap reverse c.reverse.ensures.items ∙ reverse-reverse c.sort.new.self.items in
    record { all = sorted ∙ sorted_is o c.args.events.items c.sort.new.self.items c.in_ok-sort.ensures.permutation c.in_ok-sort.ensures.sorted }
