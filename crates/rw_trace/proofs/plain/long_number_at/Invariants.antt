use Rattle.std.proofs.Common.{◌<◌, ◌≤◌, ◌-◌, ◌^◌, length}
use Rattle.rw_trace.proofs.Lines.{AreDigits}
use Rattle.rw_trace.proofs.plain.long_number_at.Given as goal

abbrev pub invariant-loop-at : goal.invariant-loop-at
invariant-loop-at l = record {
  fits : l.value < 2 ^ 64;
  within : l.at ≤ length l.fn.bytes;
  digits : AreDigits l.fn.bytes l.fn.from l.at l.value;
}

abbrev pub decreases-loop-at : goal.decreases-loop-at
decreases-loop-at l = length l.bytes - l.at
