use Rattle.std.proofs.Common.{arith, length, ◌+◌, ◌≡◌, ◌∙◌, ap, subst, reverse, rules, of_calls}
use Rattle.std.specs.Ordering.{is_lt}
use Rattle.std.specs.List.{position_or_len}
use Rattle.std.specs.List.Sorted.{IsPartitionedBy}
use Rattle.std.proofs.lemmas.List.Sorted.{IsPartitionPoint-from_clause}
use Rattle.rw_vt.specs.declared.event.Event.{Event}
use Rattle.rw_vt.specs.Order.{event_cmp, IsAscending}
use Rattle.rw_vt.proofs.EventOrder.{events_exact}
use Rattle.rw_vt.proofs.Sorting.{IsExactOrder}
use Rattle.rw_bag.proofs.Falling.{copies_between, greater_first, passed}
use Rattle.rw_bag.proofs.descending.Descending.place_above.Goals as goal

pub returns : goal.returns
returns g c =
    let o : IsExactOrder (event_cmp g.M.Body.Ord.cmp) = events_exact (record { total = g.met.M.Body.Ord.total; same = g.met.M.Model.same }) in
    let p = λ (y : Event g.row.M-Body.Denot). is_lt (event_cmp g.M.Body.Ord.cmp c.args.event y) in
    let seen : reverse c.deref.result.now ≡ c.args.self.now = ap reverse c.deref.ensures.value ∙ c.self.view_is in
    let up : IsAscending (event_cmp g.M.Body.Ord.cmp) c.args.self.now = subst (IsAscending (event_cmp g.M.Body.Ord.cmp)) c.self.view_is c.self.invariant in
    let parted : IsPartitionedBy p c.deref.result.now = greater_first o c.args.event c.deref.result.now c.args.self.now seen up in
    let above : c.partition_point.result + position_or_len (λ y. is_lt (event_cmp g.M.Body.Ord.cmp c.args.event y)) c.args.self.now ≡ length c.args.self.now =
    passed p c.deref.result.now c.args.self.now c.partition_point.result c.args.event seen c.partition_point.ensures.bound
    (IsPartitionPoint-from_clause p c.deref.result.now c.partition_point.result c.partition_point.ensures.partitioned parted (λ a r f k. search (rules, of_calls))) in
    omega (arith, copies_between o c.args.event c.args.self.now up)
