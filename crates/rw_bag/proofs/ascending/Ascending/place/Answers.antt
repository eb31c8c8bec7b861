use Rattle.std.proofs.Common.{ap, ◌∙◌, arith, rules, of_calls}
use Rattle.std.specs.Ordering.{is_gt, is_le}
use Rattle.std.specs.List.{position_or_len}
use Rattle.std.proofs.lemmas.List.Sorted.{IsPartitionPoint-from_clause}
use Rattle.rw_vt.specs.declared.event.Event.{Event}
use Rattle.rw_vt.specs.Order.{event_cmp}
use Rattle.rw_vt.proofs.EventOrder.{events_exact}
use Rattle.rw_vt.proofs.Sorting.{IsExactOrder}
use Rattle.rw_bag.proofs.Rising.{less_first, less_end}
use Rattle.rw_bag.proofs.ascending.Ascending.place.Goals as goal

pub returns : goal.returns
returns g c =
    let o : IsExactOrder (event_cmp g.M.Body.Ord.cmp) = events_exact (record { total = g.met.M.Body.Ord.total; same = g.met.M.Model.same }) in
    let cmp = event_cmp g.M.Body.Ord.cmp in
    let e = c.args.event in
    let p = λ (y : Event g.row.M-Body.Denot). is_gt (cmp e y) in
    let events = c.self.inside.events in
    let n = c.partition_point.result in
    less_end cmp e events.items n (omega (arith, c.partition_point.ensures.bound, events.ok.0))
    (IsPartitionPoint-from_clause p events.items n c.partition_point.ensures.partitioned (less_first o e events.items c.self.invariant.0) (λ a r f k. search (rules, of_calls)))
    ∙ ap (position_or_len (λ y. is_le (cmp e y))) c.self.view_is
