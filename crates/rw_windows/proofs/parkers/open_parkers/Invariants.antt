use Rattle.std.proofs.Common.{◌≡◌, vec_len, vec_capacity}
use Rattle.rw_windows.proofs.parkers.open_parkers.Given as goal

abbrev pub invariant-loop : goal.invariant-loop
invariant-loop l = record {
  room : vec_capacity l.all ≡ l.workers;
  count : vec_len l.all ≡ l.counter;
}

abbrev pub invariant-loop-from : goal.invariant-loop-from
invariant-loop-from l = vec_len l.all ≡ l.workers

abbrev pub invariant-loop-to : goal.invariant-loop-to
invariant-loop-to l = vec_len l.all ≡ l.workers
