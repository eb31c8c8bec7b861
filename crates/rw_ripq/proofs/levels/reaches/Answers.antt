use Rattle.std.proofs.Common.{arith}
use Rattle.rw_ripq.proofs.Fitting.{segments-fit}
use Rattle.rw_ripq.proofs.levels.reaches.Goals as goal

pub overflow_mul-result-2 : goal.overflow_mul-result-2
overflow_mul-result-2 c = omega (arith, segments-fit c.args.levels c.args.held c.requires.held)
