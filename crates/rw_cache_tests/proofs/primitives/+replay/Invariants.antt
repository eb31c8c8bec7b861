use Rattle.std.proofs.Common.{length}
use Rattle.rw_cache_tests.proofs.primitives.+replay.Given as goal

abbrev pub decreases-replay : goal.decreases-replay
decreases-replay g l = length l.steps.now
