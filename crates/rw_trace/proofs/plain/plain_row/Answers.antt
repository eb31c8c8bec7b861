use Rattle.std.proofs.Common.{arith}
use Rattle.rw_trace.proofs.Lines.{row-at}
use Rattle.rw_trace.proofs.plain.plain_row.Goals as goal

pub returns : goal.returns
returns c =
    row-at c.args.version c.args.edges c.args.bytes.now c.args.at c.in_ok-time.second c.in_ok-edge.third c.in_ok-object.fourth c.in_ok-size.fifth c.in_ok-kind.end c.in_ok-next.next
    c.in_ok-time.time c.in_ok-edge.edge c.in_ok-object.object c.in_ok-size.size c.in_ok-kind.kind
    c.in_ok-time.ensures c.in_ok-edge.ensures c.in_ok-object.ensures c.in_ok-size.ensures c.in_ok-kind.ensures c.in_ok-next.ensures
    (omega (arith, c.if-time-gt-MAX_TIME.false)) (omega (arith, c.if-edge-from.false)) (omega (arith, c.if-size-eq0.false)) (omega (arith, c.if-size-gt-MAX_SIZE.false))
