use Rattle.std.proofs.Common.{◌≤◌, length}
use Rattle.std.specs.Prelude.{◌≢◌}
use Rattle.std.specs.List.{AllWithin}
use Rattle.rw_pending.proofs.slot.last_of.Given as goal

abbrev pub invariant-loop-at : goal.invariant-loop-at
invariant-loop-at g l = (l.at ≤ length l.events) × AllWithin (λ e. e.time ≢ l.time) l.events l.at (length l.events)

abbrev pub decreases-loop-at : goal.decreases-loop-at
decreases-loop-at g l = l.at
