use Rattle.std.proofs.Common.{◌<◌, ◌^◌}
use Rattle.rw_trace.proofs.Lines.{AreDigits}
use Rattle.rw_trace.proofs.plain.short_number.Given as goal

abbrev pub invariant-loop-at : goal.invariant-loop-at
invariant-loop-at l = record {
  small : l.value < 10 ^ (l.at);
  digits : AreDigits l.fn.bytes 0 l.at l.value;
}
