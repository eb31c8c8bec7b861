use Rattle.rw_blocks.specs.Loose.{IsLoose}
use Rattle.rw_cache_tests.proofs.primitives.forward.Given as goal

abbrev pub invariant-loop-step : goal.invariant-loop-step
invariant-loop-step g l = IsLoose l.queue
