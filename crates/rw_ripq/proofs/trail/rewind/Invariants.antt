use Rattle.std.proofs.Common.{◌≡◌, length}
use Rattle.rw_ripq.specs.Trail.{rewind_of, IsRewindable}
use Rattle.rw_ripq.proofs.trail.rewind.Given as goal

abbrev pub invariant-loop-mark : goal.invariant-loop-mark
invariant-loop-mark l = IsRewindable l.trail l.queue × (rewind_of l.trail l.queue ≡ rewind_of l.fn.trail l.fn.queue)

abbrev pub decreases-loop-mark : goal.decreases-loop-mark
decreases-loop-mark l = length l.trail
