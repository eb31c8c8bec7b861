use Rattle.std.proofs.Common.{◌≡◌, ◌+◌, ◌++◌, length, map}
use Rattle.std.specs.VecDeque.{deque_len, deque_capacity}
use Rattle.rw_rounds.proofs.between.lists_of.Given as goal

abbrev pub invariant-loop-share : goal.invariant-loop-share
invariant-loop-share g l = record {
  room : (deque_capacity l.lists ≡ deque_len l.fn.shares) × (deque_len l.lists + length l.share-iterator.rest.items ≡ deque_len l.fn.shares);
  same : map (λ h. h.items) l.lists.items ++ map (λ v. v.items) l.share-iterator.rest.items ≡ map (λ v. v.items) l.fn.shares.items;
}
