use Rattle.std.proofs.Common.{◌≡◌}
use Rattle.rw_windows.proofs.waiting.receive_waiting.Given as goal

abbrev pub invariant-loop : goal.invariant-loop
invariant-loop g l = l.port ≡ l.fn.port
