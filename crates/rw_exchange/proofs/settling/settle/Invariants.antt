use Rattle.std.proofs.Common.{◌≡◌, All, ℕ, ◌+◌, ◌<◌, ◌≤◌, ◌++◌, map, length, vec_len, vec_capacity}
use Rattle.rtrb.specs.Fifo.{EachAllowed}
use Rattle.rw_exchange.specs.Ports.{entry}
use Rattle.rw_exchange.specs.Rings.{in_table, sent_table, received_table}
use Rattle.rw_exchange.proofs.settling.settle.Given as goal

abbrev pub invariant-loop-row : goal.invariant-loop-row
invariant-loop-row g l = record {
  room : vec_capacity l.lists ≡ vec_len l.fn.ports;
  count : vec_len l.lists + length l.row-iterator.rest.items ≡ vec_len l.fn.ports;
  walked : l.yielded ++ l.row-iterator.rest.items ≡ l.initial.row-iterator.rest.items;
  done : length l.yielded ≡ vec_len l.lists;
  wide : All (λ list. vec_len list ≡ vec_len l.fn.ports) l.lists.items;
  rings : in_table l.columns.items ≡ in_table l.initial.columns.items;
  fifo : (i j : ℕ) → i < vec_len l.lists → j < vec_len l.fn.ports → entry (received_table l.initial.columns.items) j i ++ entry (map (λ r. map (λ v. v.items) r.items) l.lists.items) i j ≡ entry (sent_table l.initial.row-iterator.rest.items) i j;
  allowed : (i j : ℕ) → i < vec_len l.lists → j < vec_len l.fn.ports → EachAllowed g.P.Protocol.allows (entry (received_table l.initial.columns.items) j i) (entry (map (λ r. map (λ v. v.items) r.items) l.lists.items) i j);
  untouched : (j i : ℕ) → vec_len l.lists ≤ i → entry (received_table l.columns.items) j i ≡ entry (received_table l.initial.columns.items) j i;
}
