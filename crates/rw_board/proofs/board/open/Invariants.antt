use Rattle.std.proofs.Common.{◌≡◌, ◌+◌, [], All, vec_len, vec_capacity}
use Rattle.rw_vt.specs.Limits.{end_of_time}
use Rattle.rw_board.specs.Seats.{new_seat}
use Rattle.rw_board.proofs.board.open.Given as goal

abbrev pub invariant-loop : goal.invariant-loop
invariant-loop l = record {
  words : (l.table.shared.table_id.words ≡ 1) × (l.table.shared.table_id.slots ≡ 0) × (l.table.shared.key ≡ l.seats);
  same : l.first.table_id ≡ l.table.shared.table_id;
  empty : l.first.me.1 ≡ [];
  noted : l.first.me.0.noted ≡ [];
  read : l.first.me.0.read ≡ end_of_time;
  weight : l.first.me.0.weight + l.counter ≡ l.seats + 1;
  count : vec_len l.all + 1 ≡ l.counter;
  room : vec_capacity l.all ≡ l.seats;
  fresh : All (λ s. s ≡ new_seat l.table.shared.table_id) l.all.items;
}
