use Rattle.std.proofs.Common.{arith, sym, ap, subst, ◌∙◌, ◌≡◌, ◌<◌, ℕ, cond, length, get_or}
use Rattle.std.specs.Prelude.{Option, Some, IfSome, OnSome, remove, slice_get}
use Rattle.std.proofs.lemmas.List.{get_or_default}
use Rattle.rw_blocks.specs.declared.Kind.{Kind}
use Rattle.rw_blocks.specs.declared.Kind.TheVariants.{Device}
use Rattle.rw_blocks.specs.Sections.{is_kind, device_count_of}
use Rattle.std.proofs.lemmas.Option.{slice_get-get_or}
use Rattle.rw_blocks.proofs.Devices.{devices-remove}
use Rattle.rw_blocks.proofs.sealed_blocks.SealedBlocks.remove.Goals as goal

at_some : {X : Type 0} (o : Option X) (x : X) (P : X → Type 0) → o ≡ Some x → IfSome o P → P x
at_some o x P e h = let g = rw e at h in g

on_some : {X : Type 0} (o : Option X) (x : X) (P : Type 0) → o ≡ Some x → OnSome o P → P
on_some o x P e h = let g = rw e at h in g

pub overflow_sub-self : goal.overflow_sub-self
overflow_sub-self c =
    let es = c.self.inside.blocks.items in
    let within : c.args.position < length es = subst (λ zs. c.args.position < length zs) (sym c.self.view_is) c.requires in
    let block : get_or es c.args.position (0, Device) ≡ c.unwrap-serial.result =
    sym (at_some c.remove.result c.unwrap-serial.result (λ e. e ≡ get_or es c.args.position e) c.unwrap-serial.ensures c.remove.ensures.value
    ∙ get_or_default es c.args.position c.unwrap-serial.result (0, Device) within) in
    let sum = devices-remove es c.args.position (0, Device) within in
    let counts = ap (λ (e : ℕ × Kind). cond {A = ℕ} (is_kind Device e.1) 1 0) block in
    omega (arith, sum, counts, c.counted.ensures, c.self.invariant)

pub invariant_of-self : goal.invariant_of-self
invariant_of-self c =
    let es = c.self.inside.blocks.items in
    let within : c.args.position < length es = subst (λ zs. c.args.position < length zs) (sym c.self.view_is) c.requires in
    let block : get_or es c.args.position (0, Device) ≡ c.unwrap-serial.result =
    sym (at_some c.remove.result c.unwrap-serial.result (λ e. e ≡ get_or es c.args.position e) c.unwrap-serial.ensures c.remove.ensures.value
    ∙ get_or_default es c.args.position c.unwrap-serial.result (0, Device) within) in
    let sum = devices-remove es c.args.position (0, Device) within in
    let counts = ap (λ (e : ℕ × Kind). cond {A = ℕ} (is_kind Device e.1) 1 0) block in
    let rest = on_some c.remove.result c.unwrap-serial.result (c.remove.new.self.items ≡ remove c.self.inside.blocks.items c.args.position) c.unwrap-serial.ensures c.remove.ensures.items in
    omega (arith, sum, counts, c.counted.ensures, c.self.invariant, ap device_count_of rest)

pub returns-clause-block : goal.returns-clause-block
returns-clause-block c =
    let es = c.self.inside.blocks.items in
    let within : c.args.position < length es = subst (λ zs. c.args.position < length zs) (sym c.self.view_is) c.requires in
    let block : get_or es c.args.position (0, Device) ≡ c.unwrap-serial.result =
    sym (at_some c.remove.result c.unwrap-serial.result (λ e. e ≡ get_or es c.args.position e) c.unwrap-serial.ensures c.remove.ensures.value
    ∙ get_or_default es c.args.position c.unwrap-serial.result (0, Device) within) in
    ap (λ zs. slice_get zs c.args.position) (sym c.self.view_is) ∙ (slice_get-get_or es c.args.position (0, Device) within ∙ ap Some block)

pub returns-clause-rest : goal.returns-clause-rest
returns-clause-rest c = on_some c.remove.result c.unwrap-serial.result (c.remove.new.self.items ≡ remove c.self.inside.blocks.items c.args.position) c.unwrap-serial.ensures c.remove.ensures.items ∙ ap (λ es. remove es c.args.position) c.self.view_is
