use Rattle.rw_exchange.specs.Ports.{SamePort}
use Rattle.rw_round_tests.proofs.rings.Trader.send_each.Given as goal

abbrev pub invariant-loop-to : goal.invariant-loop-to
invariant-loop-to l = record {
  same : SamePort l.initial.self.port l.self.port;
}
