use Rattle.std.proofs.Common.{◌++◌, ap, ◌∙◌, arith}
use Rattle.rw_windows.specs.Batches.{batch_events}
use Rattle.rw_windows.proofs.Lists.{one_behind, all_behind}
use Rattle.rw_windows.proofs.ending.add_row.Goals as goal

pub loop-ring-preserved : goal.loop-ring-preserved
loop-ring-preserved g c =
    let x = c.ring-item.result in
    one_behind (λ r. batch_events r.items) c.args.rings.now c.loop-ring.ring-index x c.args.events.now.items c.loop-ring.events.items c.add_ring.new.events.items c.loop-ring-test.true c.ring-item.is c.loop-ring.invariant
    (c.in_ok-add_ring.ensures.more ∙ ap (λ z. c.loop-ring.events.items ++ batch_events z) c.deref.ensures.value)

pub returns : goal.returns
returns g c = record {
  more = all_behind (λ ring. ring.items) batch_events c.args.rings.now c.loop-ring.ring-index c.loop-ring.events.items c.args.events.now.items (omega (arith, c.loop-ring-test.false)) c.loop-ring.invariant;
}
