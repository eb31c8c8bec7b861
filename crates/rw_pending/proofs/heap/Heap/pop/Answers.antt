use Rattle.std.proofs.Common.{rules, heap_items, ◌≡◌, ◌≤◌, [], All, IfSome, map, subst}
use Rattle.std.specs.Option.{option_map}
use Rattle.std.proofs.lemmas.List.Elements.{All-weaker}
use Rattle.std.proofs.lemmas.Option.{IfSome_then}
use Rattle.rw_vt.specs.Order.{event_cmp, AtMost}
use Rattle.rw_vt.proofs.EventOrder.{events_total, time_at_most}
use Rattle.rw_pending.proofs.Queue.{popped, popped_least, IfSome-option_map}
use Rattle.rw_pending.proofs.heap.Heap.pop.Goals as goal

pub returns-clause-taken : goal.returns-clause-taken
returns-clause-taken g c =
    let mapped : c.map.result ≡ option_map (λ r. r.0) c.pop.result = search rules in
    let taken = IfSome_then c.pop.result c.pop.ensures.permutation (λ t h. popped [] t (heap_items c.self.inside.events) (heap_items c.pop.new.self) h) in
    rw (← c.self.view_is) (IfSome-option_map _ _ c.pop.result c.map.result mapped taken)

pub returns-clause-least : goal.returns-clause-least
returns-clause-least g c =
    let mapped : c.map.result ≡ option_map (λ r. r.0) c.pop.result = search rules in
    let least = IfSome_then c.pop.result (popped_least (events_total g.met.B.Ord.total) c.pop.result (heap_items c.self.inside.events) (heap_items c.pop.new.self) c.pop.ensures.heap_order c.self.invariant)
    (λ t h. All-weaker (AtMost (event_cmp g.B.Ord.cmp) t.0) (λ f. t.0.time ≤ f.time) (λ f. time_at_most g.B.Ord.cmp t.0 f) (map (λ r. r.0) (heap_items c.self.inside.events)) h) in
    subst (λ l. IfSome c.map.result (λ e. All (λ f. e.time ≤ f.time) l)) c.self.view_is (IfSome-option_map _ _ c.pop.result c.map.result mapped least)
