use Rattle.std.proofs.Common.{◌≡◌, ◌+◌, ◌++◌, length, map, Ok, vec_len, vec_capacity}
use Rattle.rw_pool.proofs.job.outputs_of.Given as goal

abbrev pub invariant-loop-result : goal.invariant-loop-result
invariant-loop-result g l = record {
  room : vec_capacity l.outputs ≡ vec_len l.fn.results;
  count : vec_len l.outputs + length l.result-iterator.rest.items ≡ vec_len l.fn.results;
  done : map (λ w. Ok w) l.outputs.items ++ l.result-iterator.rest.items ≡ l.fn.results.items;
}
