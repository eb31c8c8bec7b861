use Rattle.std.proofs.Common.{length}
use Rattle.rw_cache_tests.proofs.insertions.+replay.Given as goal

abbrev pub decreases-replay : goal.decreases-replay
decreases-replay g l = length l.examples.now
