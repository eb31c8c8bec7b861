use Rattle.std.proofs.Common.{◌≤◌, ◌+◌, length}
use Rattle.rw_pending.specs.Pending.{HasMovedOn}
use Rattle.rw_pending.proofs.pending.move_first.Given as goal

abbrev pub invariant-loop-missing : goal.invariant-loop-missing
invariant-loop-missing g l = HasMovedOn l.fn.initial l.initial' l.fn.taken.items l.taken.items × (length l.fn.taken.items + l.count ≤ length l.taken.items + l.missing)

abbrev pub decreases-loop-missing : goal.decreases-loop-missing
decreases-loop-missing g l = length l.initial'
