use Rattle.std.proofs.Common.{arith}
use Rattle.rw_serial.proofs.Counting.{count_entered}
use Rattle.rw_serial.proofs.ledger.CountLedger.enter.Goals as goal

pub returns-clause-entered : goal.returns-clause-entered
returns-clause-entered g c = λ _ limit journals there count. record {
  limited = count.limited;
  counted = count_entered journals c.args.event.to c.args.event c.args.self.now.entered there count.counted;
  within = omega (arith, c.if-self.false, count.limited);
}
