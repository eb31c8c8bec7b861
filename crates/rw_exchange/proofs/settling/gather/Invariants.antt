use Rattle.std.proofs.Common.{◌≡◌, ◌≢◌, ℕ, ◌+◌, ◌<◌, ◌≤◌, [], ◌++◌, map, length, vec_len, vec_capacity, slice_index_or}
use Rattle.rtrb.specs.Fifo.{EachAllowed}
use Rattle.rw_exchange.specs.Ports.{entry}
use Rattle.rw_exchange.specs.Rings.{in_table, out_sent, received_table}
use Rattle.rw_exchange.proofs.settling.gather.Given as goal

abbrev pub invariant-loop-out : goal.invariant-loop-out
invariant-loop-out g l = record {
  room : vec_capacity l.lists ≡ vec_len l.fn.row;
  count : vec_len l.lists + length l.out-iterator.rest.items ≡ vec_len l.fn.row;
  walked : l.yielded ++ l.out-iterator.rest.items ≡ l.fn.row.items;
  done : length l.yielded ≡ vec_len l.lists;
  columns : vec_len l.columns ≡ vec_len l.initial.columns;
  rings : in_table l.columns.items ≡ in_table l.initial.columns.items;
  fifo : (j : ℕ) → j < vec_len l.lists → entry (received_table l.initial.columns.items) j l.own ++ slice_index_or (map (λ v. v.items) l.lists.items) j [] ≡ slice_index_or (map out_sent l.fn.row.items) j [];
  allowed : (j : ℕ) → j < vec_len l.lists → EachAllowed g.P.Protocol.allows (entry (received_table l.initial.columns.items) j l.own) (slice_index_or (map (λ v. v.items) l.lists.items) j []);
  untouched : (j : ℕ) → vec_len l.lists ≤ j → slice_index_or (received_table l.columns.items) j [] ≡ slice_index_or (received_table l.initial.columns.items) j [];
  others : (j i : ℕ) → i ≢ l.own → entry (received_table l.columns.items) j i ≡ entry (received_table l.initial.columns.items) j i;
}
