use Rattle.std.proofs.Common.{arith, ap, ◌∙◌, ◌≡◌, ◌+◌, ℕ, List, cond, take, drop}
use Rattle.std.proofs.lemmas.List.Sums.{sum_by-take-drop}
use Rattle.rw_blocks.specs.declared.Kind.{Kind}
use Rattle.rw_blocks.specs.declared.Kind.TheVariants.{Device}
use Rattle.rw_blocks.specs.Sections.{is_kind, device_count_of}
use Rattle.rw_blocks.proofs.Errors.{if_error, on_error}
use Rattle.rw_blocks.proofs.sealed_blocks.SealedBlocks.split_off.Goals as goal

parts : (es : List (ℕ × Kind)) (n : ℕ) → device_count_of (take n es) + device_count_of (drop n es) ≡ device_count_of es
parts es n = sum_by-take-drop (λ e. cond {A = ℕ} (is_kind Device e.1) 1 0) es n

pub overflow_sub-self : goal.overflow_sub-self
overflow_sub-self c =
    let sum = parts c.self.inside.blocks.items c.args.keep in
    let lower : c.device_count-devices.result ≡ device_count_of (drop c.args.keep c.self.inside.blocks.items) = c.device_count-devices.ensures ∙ ap device_count_of c.in_ok-blocks.ensures.tail in
    omega (arith, sum, lower, c.self.invariant)

pub invariant_of-self-2 : goal.invariant_of-self-2
invariant_of-self-2 c =
    let sum = parts c.self.inside.blocks.items c.args.keep in
    let lower : c.device_count-devices.result ≡ device_count_of (drop c.args.keep c.self.inside.blocks.items) = c.device_count-devices.ensures ∙ ap device_count_of c.in_ok-blocks.ensures.tail in
    let upper : device_count_of c.split_off.new.self.items ≡ device_count_of (take c.args.keep c.self.inside.blocks.items) = ap device_count_of c.in_ok-blocks.ensures.items in
    omega (arith, sum, lower, upper, c.self.invariant)

pub returns-in_err-blocks-clause-kept : goal.returns-in_err-blocks-clause-kept
returns-in_err-blocks-clause-kept c = on_error _ _ c.from_residual.result c.from_residual.ensures.1

pub returns-in_err-blocks-clause-others : goal.returns-in_err-blocks-clause-others
returns-in_err-blocks-clause-others c = if_error _ _ c.from_residual.result c.from_residual.ensures.1

pub returns-clause-kept : goal.returns-clause-kept
returns-clause-kept c = c.in_ok-blocks.ensures.items ∙ ap (take c.args.keep) c.self.view_is

pub returns-clause-others : goal.returns-clause-others
returns-clause-others c = c.in_ok-blocks.ensures.tail ∙ ap (drop c.args.keep) c.self.view_is
