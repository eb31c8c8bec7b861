use Rattle.std.proofs.Common.{◌≡◌, ℕ, ◌+◌, ◌++◌, ◌<◌, All, map, length, vec_len, vec_capacity, slice_index_or}
use Rattle.rw_exchange.specs.Ports.{outs_of, intos_of}
use Rattle.rw_exchange.specs.Rings.{out_table, in_table, out_free, sent_table, received_table, HasCapacity}
use Rattle.rw_exchange.proofs.opening.deal.Given as goal

abbrev pub invariant-loop-outs : goal.invariant-loop-outs
invariant-loop-outs g l = record {
  room : vec_capacity l.ports ≡ l.workers;
  rows : vec_len l.ports + length l.outs-iterator.a.rest.items ≡ l.workers;
  others : vec_len l.ports + length l.outs-iterator.b.rest.items ≡ l.workers;
  out : outs_of l.ports.items ++ out_table l.outs-iterator.a.rest.items ≡ out_table l.initial.outs-iterator.a.rest.items;
  into : intos_of l.ports.items ++ in_table l.outs-iterator.b.rest.items ≡ in_table l.initial.outs-iterator.b.rest.items;
  sent : map (λ p. p.sent) l.ports.items ++ sent_table l.outs-iterator.a.rest.items ≡ sent_table l.initial.outs-iterator.a.rest.items;
  received : map (λ p. p.received) l.ports.items ++ received_table l.outs-iterator.b.rest.items ≡ received_table l.initial.outs-iterator.b.rest.items;
  free : map (λ p. p.free) l.ports.items ++ map (λ v. map out_free v.items) l.outs-iterator.a.rest.items ≡ map (λ v. map out_free v.items) l.initial.outs-iterator.a.rest.items;
  numbered : (i : ℕ) (d : _) → i < length l.ports.items → (slice_index_or l.ports.items i d).worker ≡ i;
  same : All (λ p. p.capacity ≡ l.capacity) l.ports.items;
  lists : All (λ p. (length p.sent ≡ length p.out) × (length p.received ≡ length p.into)) l.ports.items;
  capacity : All (λ v. All (HasCapacity l.capacity) v.items) l.outs-iterator.a.rest.items;
}
