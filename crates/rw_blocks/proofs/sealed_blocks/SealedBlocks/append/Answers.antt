use Rattle.std.proofs.Common.{arith, sym, ap, ◌∙◌, ◌++◌}
use Rattle.rw_blocks.specs.Sections.{device_count_of}
use Rattle.rw_blocks.proofs.Errors.{on_error}
use Rattle.rw_blocks.proofs.Devices.{devices-append}
use Rattle.rw_blocks.proofs.sealed_blocks.SealedBlocks.append.Goals as goal

pub invariant_of-self : goal.invariant_of-self
invariant_of-self c = c.self.invariant ∙ ap device_count_of (sym c.in_err-append.ensures.items)

pub returns-in_err-append : goal.returns-in_err-append
returns-in_err-append c = on_error _ _ c.from_residual.result c.from_residual.ensures.1

pub invariant_of-self-2 : goal.invariant_of-self-2
invariant_of-self-2 c =
    let list = ap device_count_of c.in_ok-append.ensures.items in
    omega (arith, list, devices-append c.self.inside.blocks.items c.others.inside.blocks.items, c.others.invariant, c.self.invariant)

pub returns : goal.returns
returns c = c.in_ok-append.ensures.items ∙ (ap (λ es. es ++ c.others.inside.blocks.items) c.self.view_is ∙ ap (λ es. c.args.self.now ++ es) c.others.view_is)
