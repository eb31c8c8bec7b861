use Rattle.std.proofs.Common.{◌≡◌, ap, arith, rules, of_calls, subst}
use Rattle.std.specs.Ordering.{is_ge, is_lt}
use Rattle.std.specs.List.{position_or_len}
use Rattle.std.proofs.lemmas.List.Sorted.{IsPartitionPoint-from_clause}
use Rattle.rw_vt.specs.declared.event.Event.{Event}
use Rattle.rw_vt.specs.Order.{event_cmp, IsAscending}
use Rattle.rw_vt.proofs.EventOrder.{events_exact}
use Rattle.rw_vt.proofs.Sorting.{IsExactOrder}
use Rattle.rw_bag.proofs.Falling.{copies_between}
use Rattle.rw_bag.proofs.Rising.{not_greater_first, not_greater_end}
use Rattle.rw_bag.proofs.ascending.Ascending.place_behind.Goals as goal

pub returns-clause-at : goal.returns-clause-at
returns-clause-at g c =
    let o : IsExactOrder (event_cmp g.M.Body.Ord.cmp) = events_exact (record { total = g.met.M.Body.Ord.total; same = g.met.M.Model.same }) in
    let cmp = event_cmp g.M.Body.Ord.cmp in
    let e = c.args.event in
    let p = λ (y : Event g.row.M-Body.Denot). is_ge (cmp e y) in
    let events = c.self.inside.events in
    let n = c.partition_point.result in
    let end : n ≡ position_or_len (λ y. is_lt (cmp e y)) events.items =
    not_greater_end cmp e events.items n (omega (arith, c.partition_point.ensures.bound, events.ok.0))
    (IsPartitionPoint-from_clause p events.items n c.partition_point.ensures.partitioned (not_greater_first o e events.items c.self.invariant.0) (λ a r f k. search (rules, of_calls))) in
    let seen : position_or_len (λ y. is_lt (cmp e y)) events.items ≡ position_or_len (λ y. is_lt (cmp e y)) c.args.self.now = ap (position_or_len (λ y. is_lt (cmp e y))) c.self.view_is in
    omega (arith, end, seen, copies_between o e c.args.self.now (subst (IsAscending cmp) c.self.view_is c.self.invariant.0))
