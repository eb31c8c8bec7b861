use Rattle.std.proofs.Common.{◌≡◌, ◌+◌, ◌++◌, ◌∷◌, ◌∙◌, [], ℕ, List, ap, map, subst, sym, take}
use Rattle.std.specs.Global.{Vec}
use Rattle.std.proofs.lemmas.List.{map-append, take_more}
use Rattle.std.proofs.lemmas.Result.{err_from_is_err_and}
use Rattle.rw_sweep.specs.declared.joiner.slots.Slot.{Slot}
use Rattle.rw_sweep.specs.JoinSlots.{HasReadPart, HaveRead, OfHeld}
use Rattle.rw_sweep.specs.JoinFaults.{IsFaultOfPart}
use Rattle.rw_sweep.specs.declared.joiner.join_fault.JoinFault.{JoinFault}
use Rattle.rw_sweep.proofs.PartsRead.{one-read}
use Rattle.rw_sweep.proofs.Refusing.{first-faulty}
use Rattle.rw_sweep.proofs.joiner.reading.read_all.Goals as goal

pub loop-file-preserved : goal.loop-file-preserved
loop-file-preserved c =
    let bytes : Vec ℕ → List ℕ = λ v. v.items in
    let n : ℕ = c.loop-file.file in
    let texts : List (Vec ℕ) = c.args.texts.now in
    let text : Vec ℕ = c.index-texts-file.result in
    let old : List Slot = c.loop-file.slots.items in
    let new : List Slot = c.read_part.new.slots.items in
    let grown : map bytes (take n texts ++ text ∷ []) ≡ map bytes (take n texts) ++ text.items ∷ [] = map-append bytes (take n texts) (text ∷ []) in
    let more : take (n + 1) texts ≡ take n texts ++ text ∷ [] = take_more texts n text c.loop-file-test.true ∙ ap (λ v. take n texts ++ v ∷ []) (sym c.index-texts-file.is) in
    let read : HasReadPart text.items old new = subst (λ t. HasReadPart t old new) c.as_slice.ensures.value c.in_ok-read_part.ensures.read in
    subst (λ ts. HaveRead ts new) (sym (ap (map bytes) more ∙ grown)) (one-read (map bytes (take n texts)) text.items old new c.loop-file.invariant read)

pub returns-in_err-read_part-clause-fault : goal.returns-in_err-read_part-clause-fault
returns-in_err-read_part-clause-fault c =
    let bytes : Vec ℕ → List ℕ = λ v. v.items in
    let n : ℕ = c.loop-file.file in
    let text : Vec ℕ = c.index-texts-file.result in
    let old : List Slot = c.loop-file.slots.items in
    let e : JoinFault = c.in_err-read_part.field-0.0 in
    let p = err_from_is_err_and c.from_residual.result c.from_residual.ensures.1 in
    rw (p.1, p.2) (λ real.
    let wrong : OfHeld old (λ before. IsFaultOfPart n before text.items e) =
    subst (λ t. OfHeld old (λ before. IsFaultOfPart n before t e)) c.as_slice.ensures.value (c.in_err-read_part.ensures.fault real) in
    first-faulty bytes c.args.texts.now n text old e c.loop-file-test.true c.index-texts-file.is c.loop-file.invariant wrong)
