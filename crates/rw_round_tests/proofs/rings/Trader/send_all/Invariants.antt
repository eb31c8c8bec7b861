use Rattle.rw_exchange.specs.Ports.{SamePort}
use Rattle.rw_round_tests.proofs.rings.Trader.send_all.Given as goal

abbrev pub invariant-loop-number : goal.invariant-loop-number
invariant-loop-number l = record {
  same : SamePort l.initial.self.port l.self.port;
}
