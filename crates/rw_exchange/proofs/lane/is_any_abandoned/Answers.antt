use Rattle.std.proofs.Common.{◌≡◌, ◌<◌, length, map, drop, set, sym, ap, ◌∙◌, arith}
use Rattle.std.proofs.lemmas.List.{length-set}
use Rattle.rw_exchange.specs.Rings.{in_ring, in_received}
use Rattle.rw_exchange.proofs.Ends.{stays, whole}
use Rattle.rw_exchange.proofs.lane.is_any_abandoned.Goals as goal

pub loop-lane-preserved : goal.loop-lane-preserved
loop-lane-preserved g c =
    let inv = c.loop-lane.invariant in
    let k = c.loop-lane.lane-index in
    let items = c.loop-lane.lane-items in
    let old = c.lane-item.result in
    let new = c.is_abandoned.new.lane in
    let lt : k < length items = omega (arith, c.loop-lane.auto.lane-items, c.loop-lane-test.true) in
    record {
      rings = stays in_ring items k old new lt c.lane-item.is (c.is_abandoned.ensures.ring ∙ ap in_ring (sym c.lane-item.is)) ∙ inv.rings;
      received = stays in_received items k old new lt c.lane-item.is (c.is_abandoned.ensures.received ∙ ap in_received (sym c.lane-item.is)) ∙ inv.received;
    }

pub returns-then-is_abandoned-clause-rings : goal.returns-then-is_abandoned-clause-rings
returns-then-is_abandoned-clause-rings g c =
    let inv = c.loop-lane.invariant in
    let k = c.loop-lane.lane-index in
    let items = c.loop-lane.lane-items in
    let old = c.lane-item.result in
    let new = c.is_abandoned.new.lane in
    let lt : k < length items = omega (arith, c.loop-lane.auto.lane-items, c.loop-lane-test.true) in
    let was = c.deref_mut-lane-items.ensures.value in
    let long : c.args.lanes.now.len ≡ length (set items k new) = c.args.lanes.now.ok.0 ∙ sym (length-set items k new ∙ (c.loop-lane.auto.lane-items ∙ ap length was)) in
    ap (map in_ring) (whole c.args.lanes.now.len (set items k new) (drop (length (set items k new)) c.args.lanes.now.items) long)
    ∙ (stays in_ring items k old new lt c.lane-item.is (c.is_abandoned.ensures.ring ∙ ap in_ring (sym c.lane-item.is)) ∙ (inv.rings ∙ ap (map in_ring) was))

pub returns-then-is_abandoned-clause-received : goal.returns-then-is_abandoned-clause-received
returns-then-is_abandoned-clause-received g c =
    let inv = c.loop-lane.invariant in
    let k = c.loop-lane.lane-index in
    let items = c.loop-lane.lane-items in
    let old = c.lane-item.result in
    let new = c.is_abandoned.new.lane in
    let lt : k < length items = omega (arith, c.loop-lane.auto.lane-items, c.loop-lane-test.true) in
    let was = c.deref_mut-lane-items.ensures.value in
    let long : c.args.lanes.now.len ≡ length (set items k new) = c.args.lanes.now.ok.0 ∙ sym (length-set items k new ∙ (c.loop-lane.auto.lane-items ∙ ap length was)) in
    ap (map in_received) (whole c.args.lanes.now.len (set items k new) (drop (length (set items k new)) c.args.lanes.now.items) long)
    ∙ (stays in_received items k old new lt c.lane-item.is (c.is_abandoned.ensures.received ∙ ap in_received (sym c.lane-item.is)) ∙ (inv.received ∙ ap (map in_received) was))
