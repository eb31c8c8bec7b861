use Rattle.std.proofs.Common.{◌≡◌, ◌+◌, ◌++◌, map, length, vec_len, vec_capacity}
use Rattle.rw_round_tests.proofs.rings.split.Given as goal

abbrev pub invariant-loop-trader : goal.invariant-loop-trader
invariant-loop-trader l = record {
  room : (vec_capacity l.ports ≡ vec_len l.fn.traders) × (vec_capacity l.logs ≡ vec_len l.fn.traders);
  count : (vec_len l.ports + length l.trader-iterator.rest.items ≡ vec_len l.fn.traders) × (vec_len l.logs ≡ vec_len l.ports);
  ports : l.ports.items ++ map (λ t. t.port) l.trader-iterator.rest.items ≡ map (λ t. t.port) l.fn.traders.items;
}
