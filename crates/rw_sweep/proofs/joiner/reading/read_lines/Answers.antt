use Rattle.std.proofs.Common.{◌≡◌, ◌≤◌, List, ℕ, arith, length, subst, sym}
use Rattle.std.proofs.lemmas.Bool.{eqb-true}
use Rattle.std.proofs.lemmas.Result.{err_from_is_err_and}
use Rattle.rw_sweep.specs.Joining.{lines_of_place}
use Rattle.rw_sweep.specs.declared.joiner.join_fault.JoinFault.{JoinFault}
use Rattle.rw_sweep.specs.declared.joiner.join_fault.JoinFault.TheVariants.{Twice}
use Rattle.rw_sweep.specs.declared.joiner.slots.Slot.{Slot}
use Rattle.rw_sweep.specs.JoinFaults.{IsWrongLine}
use Rattle.rw_sweep.specs.JoinSlots.{HasReadTo, OfHeld}
use Rattle.rw_sweep.proofs.PartsRead.{all-read, read-more, read-none, shorter}
use Rattle.rw_sweep.proofs.Refusing.{some-left, too-many-line, wrong-line}
use Rattle.rw_sweep.proofs.joiner.reading.read_lines.Goals as goal

pub loop-rest-init : goal.loop-rest-init
loop-rest-init c = read-none c.args.lines.now c.args.slots.now.items

pub loop-rest-preserved : goal.loop-rest-preserved
loop-rest-preserved c =
    let place : ℕ = c.in_ok-place.place in
    let line : List ℕ = c.in_ok-place.line.now in
    let after : List ℕ = c.in_ok-place.after.now in
    let short : length c.args.lines.now ≤ 18446744073709551615 = omega arith in
    read-more c.args.lines.now c.loop-rest.rest.now after place line c.args.slots.now.items c.loop-rest.slots.items c.add.new.slots.items c.loop-rest.row c.saturating_add-row.result
    c.loop-rest.invariant c.in_ok-place.ensures.told
    c.in_ok-place.ensures.right c.in_ok-add.ensures.gained c.in_ok-add.ensures.grown c.saturating_add-row.ensures short

pub loop-rest-smaller : goal.loop-rest-smaller
loop-rest-smaller c = shorter c.loop-rest.rest.now c.in_ok-place.after.now c.in_ok-place.place c.in_ok-place.line.now c.in_ok-place.ensures.told

pub returns-in_err-place-clause-fault : goal.returns-in_err-place-clause-fault
returns-in_err-place-clause-fault c =
    let text : List ℕ = c.args.lines.now in
    let rest : List ℕ = c.loop-rest.rest.now in
    let old : List Slot = c.args.slots.now.items in
    let e : JoinFault = c.in_err-place.field-0.0 in
    let read : HasReadTo text rest old c.loop-rest.slots.items = c.loop-rest.invariant.0 in
    let wrong : IsWrongLine c.args.file c.loop-rest.row rest e = c.in_err-place.ensures.fault (some-left rest (sym c.loop-rest-test.ensures)) in
    let p = err_from_is_err_and c.from_residual.result c.from_residual.ensures.1 in
    rw (p.1, p.2) (λ real. wrong-line c.args.file text rest old c.loop-rest.slots.items e read (subst (λ n. IsWrongLine c.args.file n rest e) c.loop-rest.invariant.1 wrong))

pub returns-in_err-add-clause-fault : goal.returns-in_err-add-clause-fault
returns-in_err-add-clause-fault c =
    let place : ℕ = c.in_ok-place.place in
    let line : List ℕ = c.in_ok-place.line.now in
    let after : List ℕ = c.in_ok-place.after.now in
    let text : List ℕ = c.args.lines.now in
    let rest : List ℕ = c.loop-rest.rest.now in
    let old : List Slot = c.args.slots.now.items in
    let e : JoinFault = c.in_err-add.field-0.0 in
    let read : HasReadTo text rest old c.loop-rest.slots.items = c.loop-rest.invariant.0 in
    let p = err_from_is_err_and c.from_residual-in_err-add.result c.from_residual-in_err-add.ensures.1 in
    rw (p.1, p.2) (λ real.
    let told : (e ≡ Twice place) × OfHeld c.loop-rest.slots.items (λ ls. length (lines_of_place ls place) ≡ 3) = c.in_err-add.ensures.fault real in
    too-many-line c.args.file place line text rest after old c.loop-rest.slots.items e read c.in_ok-place.ensures.told
    c.in_ok-place.ensures.right told.0 told.1)

pub returns : goal.returns
returns c = record {
  read = all-read c.args.lines.now c.loop-rest.rest.now c.args.slots.now.items c.loop-rest.slots.items (eqb-true (length c.loop-rest.rest.now) 0 (sym c.loop-rest-test.ensures)) c.loop-rest.invariant.0;
  fault = tt;
}
