use Rattle.std.proofs.Common.{arith}
use Rattle.rw_ripq.proofs.Fitting.{below-fit, segments-fit}
use Rattle.rw_ripq.proofs.levels.level_of_section.Goals as goal

pub overflow_mul-segments : goal.overflow_mul-segments
overflow_mul-segments c =
    omega (arith, c.below.ensures, segments-fit c.args.levels c.below.result (omega (arith, c.below.ensures, below-fit c.args.queue.now c.args.section c.requires.loose c.requires.there)))
