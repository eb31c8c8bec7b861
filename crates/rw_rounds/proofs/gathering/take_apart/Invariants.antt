use Rattle.std.proofs.Common.{◌≡◌, ◌+◌, ◌++◌, length, map, vec_len, vec_capacity}
use Rattle.std.specs.VecDeque.{deque_len, deque_capacity}
use Rattle.rw_rounds.proofs.gathering.take_apart.Given as goal

abbrev pub invariant-loop-worker : goal.invariant-loop-worker
invariant-loop-worker g l = record {
  shares_room : (deque_capacity l.parts.shares ≡ vec_len l.fn.workers) × (deque_len l.parts.shares + length l.worker-iterator.rest.items ≡ vec_len l.fn.workers);
  kept_room : (vec_capacity l.parts.kept ≡ vec_len l.fn.workers) × (vec_len l.parts.kept + length l.worker-iterator.rest.items ≡ vec_len l.fn.workers);
  aside_room : (vec_capacity l.parts.aside ≡ vec_len l.fn.workers) × (vec_len l.parts.aside + length l.worker-iterator.rest.items ≡ vec_len l.fn.workers);
  ports_room : (vec_capacity l.parts.ports ≡ vec_len l.fn.workers) × (vec_len l.parts.ports + length l.worker-iterator.rest.items ≡ vec_len l.fn.workers);
  seats_room : (vec_capacity l.parts.seats ≡ vec_len l.fn.workers) × (vec_len l.parts.seats + length l.worker-iterator.rest.items ≡ vec_len l.fn.workers);
  shares : map (λ h. h.items) l.parts.shares.items ++ map (λ w. w.processes) l.worker-iterator.rest.items ≡ map (λ w. w.processes) l.fn.workers.items;
  kept : map (λ k. k.items) l.parts.kept.items ++ map (λ w. w.kept) l.worker-iterator.rest.items ≡ map (λ w. w.kept) l.fn.workers.items;
  aside : map (λ a. a.items) l.parts.aside.items ++ map (λ w. w.aside) l.worker-iterator.rest.items ≡ map (λ w. w.aside) l.fn.workers.items;
  ports : l.parts.ports.items ++ map (λ w. w.port) l.worker-iterator.rest.items ≡ map (λ w. w.port) l.fn.workers.items;
  seats : l.parts.seats.items ++ map (λ w. w.seat) l.worker-iterator.rest.items ≡ map (λ w. w.seat) l.fn.workers.items;
}
