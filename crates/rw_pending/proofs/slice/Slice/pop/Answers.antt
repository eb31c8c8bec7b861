use Rattle.std.proofs.Common.{rules, ◌≡◌, ◌+◌, ◌≤◌, suc, arith, drop, length, subst}
use Rattle.std.specs.List.Sorted.{IsSorted}
use Rattle.rw_vt.specs.Order.{event_cmp}
use Rattle.rw_vt.proofs.EventOrder.{events_total}
use Rattle.rw_pending.proofs.Queue.{sorted_next}
use Rattle.rw_pending.proofs.slice.Slice.pop.Goals as goal

pub invariant_of-self : goal.invariant_of-self
invariant_of-self g c =
    let n = c.self.inside.taken in
    let xs = c.self.inside.events.items in
    let there : n + 1 ≤ length xs = search rules in
    let next : suc n ≡ n + 1 = omega arith in
    (there, subst (λ k. IsSorted (event_cmp g.B.Ord.cmp) (drop k xs)) next (sorted_next (events_total g.met.B.Ord.total) n xs c.self.invariant.1))
