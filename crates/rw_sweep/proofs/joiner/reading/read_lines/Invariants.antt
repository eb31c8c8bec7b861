use Rattle.std.proofs.Common.{length}
use Rattle.rw_sweep.specs.JoinSlots.{HasReadRows}
use Rattle.rw_sweep.proofs.joiner.reading.read_lines.Given as goal

abbrev pub invariant-loop-rest : goal.invariant-loop-rest
invariant-loop-rest l = HasReadRows l.lines l.rest l.fn.slots.items l.slots.items l.row

abbrev pub decreases-loop-rest : goal.decreases-loop-rest
decreases-loop-rest l = length l.rest
