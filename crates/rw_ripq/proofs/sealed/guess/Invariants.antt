use Rattle.std.proofs.Common.{◌≤◌, ◌-◌, length}
use Rattle.rw_blocks.specs.State.{section_at}
use Rattle.rw_ripq.proofs.sealed.guess.Given as goal

abbrev pub invariant-loop-from : goal.invariant-loop-from
invariant-loop-from l = record {
  ordered : l.from ≤ l.to;
  within : l.to ≤ length (section_at l.queue l.section).sealed;
}

abbrev pub decreases-loop-from : goal.decreases-loop-from
decreases-loop-from l = l.to - l.from
