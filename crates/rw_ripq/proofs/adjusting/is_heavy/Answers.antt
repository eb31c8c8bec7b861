use Rattle.std.proofs.Common.{arith}
use Rattle.rw_ripq.proofs.Fitting.{bytes-fit, times-fit}
use Rattle.rw_ripq.proofs.adjusting.is_heavy.Goals as goal

pub overflow_mul-bytes : goal.overflow_mul-bytes
overflow_mul-bytes c =
    omega (
      arith,
      times-fit c.bytes.result c.allowed_sections.result
          (let h = bytes-fit c.args.queue.now c.args.section c.requires.loose in omega arith) (let range = c.requires.loose.shaped in omega (arith, c.allowed_sections.ensures)),
    )
