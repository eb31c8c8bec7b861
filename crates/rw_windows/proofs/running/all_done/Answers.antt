use Rattle.std.proofs.Common.{◌≤◌, arith}
use Rattle.rw_windows.proofs.Lists.{held_more}
use Rattle.rw_windows.proofs.running.all_done.Goals as goal

pub loop-share-init : goal.loop-share-init
loop-share-init g c = λ i d below. absurd (omega arith)

pub loop-share-preserved : goal.loop-share-preserved
loop-share-preserved g c =
    held_more (λ w. w.end ≤ w.until) c.args.shares.now c.loop-share.share-index c.share-item.result c.loop-share-test.true c.share-item.is c.loop-share.invariant (c.is_done.ensures.done c.if-not-is_done.false)

pub returns : goal.returns
returns g c = record { done = λ yes_all i d below. c.loop-share.invariant i d (omega (arith, below, c.loop-share-test.false)) }
