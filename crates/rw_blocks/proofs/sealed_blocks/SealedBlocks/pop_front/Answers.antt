use Rattle.std.proofs.Common.{arith, sym, ap, ◌∙◌, ◌≡◌, ◌∷◌, drop}
use Rattle.std.specs.Prelude.{slice_get}
use Rattle.rw_blocks.specs.Sections.{device_count_of}
use Rattle.rw_blocks.proofs.Devices.{devices-cons}
use Rattle.rw_blocks.proofs.sealed_blocks.SealedBlocks.pop_front.Goals as goal

pub invariant_of-self : goal.invariant_of-self
invariant_of-self c = c.self.invariant ∙ ap device_count_of c.in_err-serial.ensures.items

pub returns-in_err-serial-clause-rest : goal.returns-in_err-serial-clause-rest
returns-in_err-serial-clause-rest c = c.in_err-serial.ensures.rest ∙ ap (drop 1) c.self.view_is

pub overflow_sub-self : goal.overflow_sub-self
overflow_sub-self c =
    let is : c.self.inside.blocks.items ≡ (c.in_ok-serial.serial, c.in_ok-serial.kind) ∷ c.pop_front.new.self.items = c.in_ok-serial.ensures.items in
    omega (arith, devices-cons (c.in_ok-serial.serial, c.in_ok-serial.kind) c.pop_front.new.self.items, c.counted.ensures, c.self.invariant, ap device_count_of is)

pub invariant_of-self-2 : goal.invariant_of-self-2
invariant_of-self-2 c =
    let is : c.self.inside.blocks.items ≡ (c.in_ok-serial.serial, c.in_ok-serial.kind) ∷ c.pop_front.new.self.items = c.in_ok-serial.ensures.items in
    omega (arith, devices-cons (c.in_ok-serial.serial, c.in_ok-serial.kind) c.pop_front.new.self.items, c.counted.ensures, c.self.invariant, ap device_count_of is)

pub returns-clause-front : goal.returns-clause-front
returns-clause-front c =
    let is : c.self.inside.blocks.items ≡ (c.in_ok-serial.serial, c.in_ok-serial.kind) ∷ c.pop_front.new.self.items = c.in_ok-serial.ensures.items in
    ap (λ es. slice_get es 0) (sym is ∙ c.self.view_is)

pub returns-clause-rest : goal.returns-clause-rest
returns-clause-rest c = c.in_ok-serial.ensures.rest ∙ ap (drop 1) c.self.view_is
