use Rattle.std.proofs.Common.{arith, sym, ap, ◌∙◌, ◌∷◌}
use Rattle.rw_blocks.specs.Sections.{device_count_of}
use Rattle.rw_blocks.proofs.Errors.{on_error}
use Rattle.rw_blocks.proofs.Devices.{devices-cons}
use Rattle.rw_blocks.proofs.sealed_blocks.SealedBlocks.push_front.Goals as goal

pub invariant_of-self : goal.invariant_of-self
invariant_of-self c = c.self.invariant ∙ ap device_count_of (sym c.in_err-push_front.ensures.items)

pub returns-in_err-push_front : goal.returns-in_err-push_front
returns-in_err-push_front c = on_error _ _ c.from_residual.result c.from_residual.ensures.1

pub invariant_of-self-2 : goal.invariant_of-self-2
invariant_of-self-2 c =
    let list = ap device_count_of c.in_ok-push_front.ensures.items in
    omega (arith, list, devices-cons (c.args.serial, c.args.kind) c.self.inside.blocks.items, c.counted.ensures, c.self.invariant)

pub returns : goal.returns
returns c = c.in_ok-push_front.ensures.items ∙ ap (λ es. (c.args.serial, c.args.kind) ∷ es) c.self.view_is
