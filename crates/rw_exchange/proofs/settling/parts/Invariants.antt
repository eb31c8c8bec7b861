use Rattle.std.proofs.Common.{◌≡◌, ◌+◌, ◌++◌, map, length, vec_len, vec_capacity}
use Rattle.rw_exchange.specs.Ports.{outs_of, intos_of}
use Rattle.rw_exchange.specs.Rings.{out_table, in_table, sent_table, received_table}
use Rattle.rw_exchange.proofs.settling.parts.Given as goal

abbrev pub invariant-loop-port : goal.invariant-loop-port
invariant-loop-port g l = record {
  room : (vec_capacity l.rows ≡ vec_len l.fn.ports) × (vec_capacity l.columns ≡ vec_len l.fn.ports);
  rows : vec_len l.rows + length l.port-iterator.rest.items ≡ vec_len l.fn.ports;
  columns : vec_len l.columns + length l.port-iterator.rest.items ≡ vec_len l.fn.ports;
  out : out_table l.rows.items ++ map (λ f. f.out) l.port-iterator.rest.items ≡ outs_of l.fn.ports.items;
  into : in_table l.columns.items ++ map (λ f. f.into) l.port-iterator.rest.items ≡ intos_of l.fn.ports.items;
  sent : sent_table l.rows.items ++ map (λ f. f.sent) l.port-iterator.rest.items ≡ map (λ f. f.sent) l.fn.ports.items;
  received : received_table l.columns.items ++ map (λ f. f.received) l.port-iterator.rest.items ≡ map (λ f. f.received) l.fn.ports.items;
}
