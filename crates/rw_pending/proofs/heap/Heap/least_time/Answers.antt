use Rattle.std.proofs.Common.{rules, heap_items, ◌<◌, length, subst, Some}
use Rattle.rw_vt.proofs.EventOrder.{events_total}
use Rattle.rw_pending.specs.Later.{IsLeastTime}
use Rattle.rw_pending.proofs.ByTime.{least_on_top}
use Rattle.rw_pending.proofs.heap.Heap.least_time.Goals as goal

pub returns-in-Some : goal.returns-in-Some
returns-in-Some g c =
    let t = c.in-Some.field-0.now in
    let there : 0 < length (heap_items c.self.inside.events) = search rules in
    subst (λ l. IsLeastTime l (Some t.0.time)) c.self.view_is
    (least_on_top g.B.Ord.cmp (events_total g.met.B.Ord.total) t (heap_items c.self.inside.events) c.in-Some.ensures.lookup there (c.in-Some.ensures.greatest c.self.invariant))
