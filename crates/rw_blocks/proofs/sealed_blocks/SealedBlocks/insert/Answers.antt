use Rattle.std.proofs.Common.{arith, ap, ◌∙◌}
use Rattle.std.specs.Prelude.{insert}
use Rattle.rw_blocks.specs.Sections.{device_count_of}
use Rattle.rw_blocks.proofs.Errors.{on_error}
use Rattle.rw_blocks.proofs.Devices.{devices-insert}
use Rattle.rw_blocks.proofs.sealed_blocks.SealedBlocks.insert.Goals as goal

pub returns-in_err-insert : goal.returns-in_err-insert
returns-in_err-insert c = on_error _ _ c.from_residual.result c.from_residual.ensures.1

pub invariant_of-self-2 : goal.invariant_of-self-2
invariant_of-self-2 c =
    let list = ap device_count_of c.in_ok-insert.ensures.items in
    omega (arith, list, devices-insert c.self.inside.blocks.items c.args.position (c.args.serial, c.args.kind), c.counted.ensures, c.self.invariant)

pub returns : goal.returns
returns c = c.in_ok-insert.ensures.items ∙ ap (λ es. insert es c.args.position (c.args.serial, c.args.kind)) c.self.view_is
