use Rattle.rw_sweep.proofs.Joining.{parts-make-the-sweep}
use Rattle.rw_sweep.proofs.part.parts_make_the_sweep.Goals as goal

pub returns : goal.returns
returns c = parts-make-the-sweep
