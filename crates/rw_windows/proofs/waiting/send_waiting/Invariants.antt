use Rattle.std.proofs.Common.{◌≡◌}
use Rattle.rw_windows.proofs.waiting.send_waiting.Given as goal

abbrev pub invariant-loop : goal.invariant-loop
invariant-loop g l = record {
  port : l.port ≡ l.fn.port;
  item : l.item ≡ l.fn.item;
}
