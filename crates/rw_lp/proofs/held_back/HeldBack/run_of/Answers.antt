use Rattle.std.proofs.Common.{rules, of_calls}
use Rattle.std.specs.Ordering.{is_gt, is_ge}
use Rattle.std.proofs.lemmas.List.Sorted.{IsPartitionPoint-from_clause}
use Rattle.rw_vt.specs.Order.{event_cmp}
use Rattle.rw_vt.proofs.EventOrder.{events_exact}
use Rattle.rw_vt.proofs.Sorting.{IsExactOrder}
use Rattle.rw_lp.specs.declared.held.Held.{Held}
use Rattle.rw_lp.proofs.HeldRuns.{greater_first, not_less_first, run_is}
use Rattle.rw_lp.proofs.held_back.HeldBack.run_of.Goals as goal

pub returns : goal.returns
returns g c =
    let o : IsExactOrder (event_cmp g.M.Body.Ord.cmp) = events_exact (record { total = g.met.M.Body.Ord.total; same = g.met.M.Model.same }) in
    let cmp = event_cmp g.M.Body.Ord.cmp in
    let e = c.args.event in
    let hs = c.args.pairs.now in
    let from = IsPartitionPoint-from_clause (λ (h : Held g.row.M-Body.Denot). is_gt (cmp h.undone e)) hs c.partition_point-from.result c.partition_point-from.ensures.partitioned (greater_first o e hs c.requires.falling) (λ a r f k. search (rules, of_calls)) in
    let behind = IsPartitionPoint-from_clause (λ (h : Held g.row.M-Body.Denot). is_ge (cmp h.undone e)) hs c.partition_point-behind.result c.partition_point-behind.ensures.partitioned (not_less_first o e hs c.requires.falling) (λ a r f k. search (rules, of_calls)) in
    run_is cmp e hs c.partition_point-from.result c.partition_point-behind.result c.partition_point-from.ensures.bound c.partition_point-behind.ensures.bound from.0 from.1 behind.0 behind.1
