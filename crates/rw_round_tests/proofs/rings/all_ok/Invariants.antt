use Rattle.std.proofs.Common.{◌≡◌, ◌+◌, ◌++◌, map, length, vec_len, vec_capacity, Ok}
use Rattle.rw_round_tests.proofs.rings.all_ok.Given as goal

abbrev pub invariant-loop-trader : goal.invariant-loop-trader
invariant-loop-trader l = record {
  room : vec_capacity l.traders ≡ vec_len l.fn.results;
  count : vec_len l.traders + length l.trader-iterator.rest.items ≡ vec_len l.fn.results;
  all : map (λ t. Ok t) l.traders.items ++ l.trader-iterator.rest.items ≡ l.fn.results.items;
}
