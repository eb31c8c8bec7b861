use Rattle.rw_sweep.proofs.Unique.{join-of-parts}
use Rattle.rw_sweep.proofs.joiner.join_of_parts.Goals as goal

pub returns : goal.returns
returns c = join-of-parts
