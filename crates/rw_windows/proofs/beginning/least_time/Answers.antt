use Rattle.std.proofs.Common.{◌≤◌, arith}
use Rattle.rw_windows.proofs.Lists.{held_more}
use Rattle.rw_windows.proofs.beginning.least_time.Goals as goal

pub loop-event-init : goal.loop-event-init
loop-event-init g c = λ i d below. absurd (omega arith)

pub loop-event-preserved : goal.loop-event-preserved
loop-event-preserved g c =
    let least = c.min-least.ensures in
    held_more (λ e. c.min-least.result ≤ e.time) c.args.events.now c.loop-event.event-index c.event-item.result c.loop-event-test.true c.event-item.is
    (λ i d below. let before = c.loop-event.invariant i d below in omega (arith, least, before)) (omega (arith, least))

pub returns : goal.returns
returns g c = record { least = λ i d below. c.loop-event.invariant i d (omega (arith, below, c.loop-event-test.false)) }
