use Rattle.std.proofs.Common.{◌≡◌, ◌++◌, ◌∙◌, ℕ, List, map, subst, ap, take_all}
use Rattle.std.specs.Prelude.{All}
use Rattle.std.specs.List.{concat}
use Rattle.std.proofs.lemmas.List.Elements.{All-more}
use Rattle.std.proofs.lemmas.Result.{IfOk-from_err, err_from_is_err_and}
use Rattle.rw_sweep.specs.Table.{header_line}
use Rattle.rw_sweep.specs.declared.joiner.slots.Slot.{Slot}
use Rattle.rw_sweep.proofs.PartsRead.{told-more}
use Rattle.rw_sweep.proofs.Refusing.{slots-fault}
use Rattle.rw_sweep.proofs.joiner.slots.put_together.Goals as goal

pub loop-place-preserved : goal.loop-place-preserved
loop-place-preserved c =
    let slots : List Slot = c.args.slots.now in
    let n : ℕ = c.loop-place.place in
    let slot : Slot = c.index-slots-place.result in
    let has : slot.count ≡ 3 = c.in_ok-check_lines.ensures.three in
    record {
      three = All-more (λ s. s.count ≡ 3) slots n slot c.loop-place-test.true c.loop-place.invariant.three (subst (λ (s : Slot). s.count ≡ 3) c.index-slots-place.is has);
      told = told-more slots n slot c.loop-place.text.items c.extend_from_slice.new.self.items c.loop-place-test.true c.index-slots-place.is c.loop-place.invariant.told
          (c.in_ok-extend_from_slice.ensures.items ∙ ap (λ t. c.loop-place.text.items ++ t) c.as_slice.ensures.value);
    }

pub returns-in_err-check_lines-clause-fault : goal.returns-in_err-check_lines-clause-fault
returns-in_err-check_lines-clause-fault c =
    let p = err_from_is_err_and c.from_residual-in_err-check_lines.result c.from_residual-in_err-check_lines.ensures.1 in
    rw (p.1, p.2) (λ real. slots-fault c.args.slots.now c.loop-place.place c.index-slots-place.result c.in_err-check_lines.field-0.0 c.loop-place-test.true c.index-slots-place.is c.loop-place.invariant.three c.in_err-check_lines.ensures.fault)

pub returns-in_err-extend_from_slice-clause-three : goal.returns-in_err-extend_from_slice-clause-three
returns-in_err-extend_from_slice-clause-three c = IfOk-from_err c.from_residual-in_err-extend_from_slice.result _ c.from_residual-in_err-extend_from_slice.ensures.0

pub returns-in_err-extend_from_slice-clause-told : goal.returns-in_err-extend_from_slice-clause-told
returns-in_err-extend_from_slice-clause-told c = IfOk-from_err c.from_residual-in_err-extend_from_slice.result _ c.from_residual-in_err-extend_from_slice.ensures.0

pub returns-in_err-extend_from_slice-clause-fault : goal.returns-in_err-extend_from_slice-clause-fault
returns-in_err-extend_from_slice-clause-fault c =
    let p = err_from_is_err_and c.from_residual-in_err-extend_from_slice.result c.from_residual-in_err-extend_from_slice.ensures.1 in
    rw p.1 (λ other. absurd (other p.2))

pub returns-clause-three : goal.returns-clause-three
returns-clause-three c =
    let slots : List Slot = c.args.slots.now in
    subst (All (λ (s : Slot). s.count ≡ 3)) (take_all c.loop-place.place slots c.loop-place-test.false) c.loop-place.invariant.three

pub returns-clause-told : goal.returns-clause-told
returns-clause-told c =
    let slots : List Slot = c.args.slots.now in
    c.loop-place.invariant.told ∙ ap (λ (ss : List Slot). header_line ++ concat (map (λ s. s.text.items) ss)) (take_all c.loop-place.place slots c.loop-place-test.false)
