use Rattle.std.proofs.Common.{◌≤◌, ◌-◌, length}
use Rattle.rw_trace.proofs.Lines.{AreRead}
use Rattle.rw_trace.proofs.plain.plain_rows.Given as goal

abbrev pub invariant-loop-at : goal.invariant-loop-at
invariant-loop-at l = record {
  read : AreRead l.version l.edges l.fn.bytes l.fn.from l.at l.rows.items;
  few : length l.rows.items ≤ l.most;
}

abbrev pub decreases-loop-at : goal.decreases-loop-at
decreases-loop-at l = length l.initial.bytes - l.at
