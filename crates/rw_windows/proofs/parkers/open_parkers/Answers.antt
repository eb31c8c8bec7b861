use Rattle.std.proofs.Common.{◌∙◌, arith}
use Rattle.rw_windows.proofs.parkers.open_parkers.Goals as goal

pub loop-init : goal.loop-init
loop-init c = record { room = c.in_ok-all.ensures.exact; count = c.in_ok-all.ensures.len }

pub push_reserved-requires : goal.push_reserved-requires
push_reserved-requires c = omega (arith, c.loop.invariant.room, c.loop.invariant.count, c.loop-test.true)

pub loop-preserved : goal.loop-preserved
loop-preserved c =
    let known = c.loop.invariant in
    record {
      room = c.push_reserved.ensures.capacity ∙ known.room;
      count = omega (arith, c.push_reserved.ensures.len, known.count);
    }
