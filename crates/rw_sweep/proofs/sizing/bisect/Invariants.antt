use Rattle.std.proofs.Common.{length}
use Rattle.rw_sweep.proofs.Halving.{IsRange}
use Rattle.rw_sweep.proofs.sizing.bisect.Given as goal

abbrev pub invariant-loop-step : goal.invariant-loop-step
invariant-loop-step g l = IsRange l.search l.rows (length l.fn.tries.items) l.step l.missed l.reached l.tries.items
