use Rattle.std.proofs.Common.{arith, ◌+◌}
use Rattle.rw_ripq.proofs.Fitting.{bytes-fit, times-fit}
use Rattle.rw_ripq.proofs.adjusting.is_light.Goals as goal

pub overflow_add-result : goal.overflow_add-result
overflow_add-result c =
    omega (arith, bytes-fit c.args.queue.now c.args.section c.requires.loose, bytes-fit c.args.queue.now (c.args.section + 1) c.requires.loose)

pub overflow_mul-result : goal.overflow_mul-result
overflow_mul-result c =
    omega (
      arith,
      times-fit (c.bytes.result + c.bytes-2.result) c.allowed_sections.result
          (omega (arith, bytes-fit c.args.queue.now c.args.section c.requires.loose, bytes-fit c.args.queue.now (c.args.section + 1) c.requires.loose))
          (let range = c.requires.loose.shaped in omega (arith, c.allowed_sections.ensures)),
    )
