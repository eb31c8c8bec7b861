use Rattle.std.proofs.Common.{◌-◌, ◌≤◌}
use Rattle.rw_command.proofs.hint.Beginning.read.Given as goal

abbrev pub invariant-loop-length : goal.invariant-loop-length
invariant-loop-length g l = l.length ≤ 64

abbrev pub decreases-loop-length : goal.decreases-loop-length
decreases-loop-length g l = 64 - l.length
