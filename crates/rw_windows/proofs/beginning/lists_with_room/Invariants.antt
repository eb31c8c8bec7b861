use Rattle.std.proofs.Common.{◌≡◌, map, replicate, vec_len, vec_capacity, []}
use Rattle.rw_windows.proofs.beginning.lists_with_room.Given as goal

abbrev pub invariant-loop : goal.invariant-loop
invariant-loop g l = record {
  room : vec_capacity l.lists ≡ l.count;
  count : vec_len l.lists ≡ l.counter;
  empty : map (λ j. j.items) l.lists.items ≡ replicate l.counter [];
}
