use Rattle.rw_exchange.specs.Ports.{SamePort}
use Rattle.rw_round_tests.proofs.rings.Trader.receive_all.Given as goal

abbrev pub invariant-loop-turn : goal.invariant-loop-turn
invariant-loop-turn l = record {
  same : SamePort l.initial.self.port l.self.port;
}
