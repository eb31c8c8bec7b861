use Rattle.std.proofs.Common.{◌≡◌, ◌+◌, ◌++◌, length, map, vec_len}
use Rattle.std.specs.VecDeque.{deque_len, deque_capacity}
use Rattle.rw_rounds.proofs.between.shares_of.Given as goal

abbrev pub invariant-loop-list : goal.invariant-loop-list
invariant-loop-list g l = record {
  room : (deque_capacity l.shares ≡ vec_len l.fn.lists) × (deque_len l.shares + length l.list-iterator.rest.items ≡ vec_len l.fn.lists);
  same : map (λ h. h.items) l.shares.items ++ map (λ v. v.items) l.list-iterator.rest.items ≡ map (λ v. v.items) l.fn.lists.items;
}
