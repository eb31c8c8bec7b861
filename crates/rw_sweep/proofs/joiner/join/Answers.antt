use Rattle.std.proofs.Common.{◌≡◌, ◌∙◌, ℕ, List, length, map, subst, sym}
use Rattle.std.specs.Prelude.{◌≢◌, IfErr, IfSome}
use Rattle.std.specs.Global.{Vec}
use Rattle.rw_sweep.specs.declared.joiner.slots.Slot.{Slot}
use Rattle.rw_sweep.specs.declared.joiner.join_fault.JoinFault.{JoinFault}
use Rattle.rw_sweep.specs.declared.joiner.join_fault.JoinFault.TheVariants.{Memory}
use Rattle.rw_sweep.specs.JoinSlots.{HaveRead, IsFaultOfCount, IsFaultOfSlots}
use Rattle.std.proofs.lemmas.Result.{err_from_is_err_and}
use Rattle.rw_sweep.proofs.PartsRead.{joined}
use Rattle.rw_sweep.proofs.Refusing.{count-refused, text-refused}
use Rattle.rw_sweep.proofs.joiner.join.Goals as goal

pub returns-clause-joined : goal.returns-clause-joined
returns-clause-joined c =
    let bytes : Vec ℕ → List ℕ = λ v. v.items in
    let texts : List (List ℕ) = map bytes c.args.texts.now in
    joined texts c.as_slice-2.result.now c.args.count c.put_together.result
    (subst (λ slots. HaveRead texts slots) (sym c.as_slice-2.ensures.value) c.in_ok-slots.ensures.read)
    (subst (λ (slots : List Slot). IfSome c.args.count (λ n. length slots ≡ n)) (c.as_slice.ensures.value ∙ sym c.as_slice-2.ensures.value) c.in_ok-check_count.ensures.many) c.put_together.ensures.three c.put_together.ensures.told

pub returns-clause-fault : goal.returns-clause-fault
returns-clause-fault c =
    let bytes : Vec ℕ → List ℕ = λ v. v.items in
    let texts : List (List ℕ) = map bytes c.args.texts.now in
    let slots : List Slot = c.in_ok-slots.slots.items in
    text-refused texts slots c.in_ok-slots.ensures.read c.args.count c.put_together.result
    (subst (λ (slots : List Slot). IfSome c.args.count (λ n. length slots ≡ n)) c.as_slice.ensures.value c.in_ok-check_count.ensures.many)
    (subst (λ (slots : List Slot). IfErr c.put_together.result (λ e. e ≢ Memory → IsFaultOfSlots slots e)) c.as_slice-2.ensures.value c.put_together.ensures.fault)

pub returns-in_err-check_count-clause-fault : goal.returns-in_err-check_count-clause-fault
returns-in_err-check_count-clause-fault c =
    let bytes : Vec ℕ → List ℕ = λ v. v.items in
    let texts : List (List ℕ) = map bytes c.args.texts.now in
    let slots : List Slot = c.in_ok-slots.slots.items in
    let e : JoinFault = c.in_err-check_count.field-0.0 in
    let p = err_from_is_err_and c.from_residual-in_err-check_count.result c.from_residual-in_err-check_count.ensures.1 in
    rw (p.1, p.2) (λ real. count-refused texts slots c.in_ok-slots.ensures.read c.args.count e
    (subst (λ slots. IsFaultOfCount slots c.args.count e) c.as_slice.ensures.value c.in_err-check_count.ensures.fault))
