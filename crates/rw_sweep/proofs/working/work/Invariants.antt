use Rattle.std.proofs.Common.{All}
use Rattle.rw_sweep.specs.Working.{IsEntryOf}
use Rattle.rw_sweep.proofs.working.work.Given as goal

abbrev pub invariant-loop : goal.invariant-loop
invariant-loop g l = All (IsEntryOf l.rows l.points) l.entries.items
