use Rattle.rw_blocks.specs.Loose.{IsWellFormedQueue}
use Rattle.rw_cache_tests.proofs.insertions.forward.Given as goal

abbrev pub invariant-loop-example : goal.invariant-loop-example
invariant-loop-example g l = IsWellFormedQueue l.queue
