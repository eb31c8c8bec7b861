use Rattle.rw_exchange.specs.Ports.{SamePort}
use Rattle.rw_round_tests.proofs.rings.Trader.receive.Given as goal

abbrev pub invariant-loop-from : goal.invariant-loop-from
invariant-loop-from l = record {
  same : SamePort l.initial.self.port l.self.port;
}
