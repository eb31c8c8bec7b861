use Rattle.std.proofs.Common.{arith, sym, ap, ◌≡◌, ◌∙◌, ◌<◌, ◌-◌, ℕ, List, length, get_or}
use Rattle.std.specs.Prelude.{Some}
use Rattle.rw_blocks.specs.declared.Kind.{Kind}
use Rattle.rw_blocks.specs.declared.Kind.TheVariants.{Device}
use Rattle.rw_blocks.specs.State.{section_at}
use Rattle.rw_ripq.proofs.Standing.{only_place, sealed-once}
use Rattle.std.proofs.lemmas.Bool.{eq-eqb, ne_eqb}
use Rattle.rw_blocks.specs.Sections.{has_serial}
use Rattle.rw_ripq.proofs.Places.{first-at, none-at, more-fail}
use Rattle.rw_ripq.proofs.sealed.position_in.Goals as goal

pub returns-then-serial-block : goal.returns-then-serial-block
returns-then-serial-block c =
    first-at (has_serial c.args.block) _ _ _ c.loop-position.invariant c.sealed_at-serial.ensures (eq-eqb _ _ c.if-serial-block.true)

pub loop-position-preserved : goal.loop-position-preserved
loop-position-preserved c =
    more-fail (has_serial c.args.block) _ _ _ _ c.loop-position.invariant c.sealed_at-serial.ensures (ne_eqb _ _ c.if-serial-block.false)

pub returns : goal.returns
returns c = none-at (has_serial c.args.block) _ _ _ c.loop-position.invariant (omega (arith, c.loop-position-test.false, c.sealed-position-end.ensures))

pub returns-then-is_last : goal.returns-then-is_last
returns-then-is_last c =
    let es : List (ℕ × Kind) = (section_at c.args.queue.now c.args.section).sealed in
    let some : 0 < length es = c.is_last.ensures.some c.if-is_last.true in
    let last : (get_or es (length es - 1) (0, Device)).0 ≡ c.args.block = c.is_last.ensures.last c.if-is_last.true in
    let once = sealed-once c.args.queue.now c.args.section c.args.block c.requires.loose c.requires.there in
    ap (λ (n : ℕ). Some (n - 1)) c.sealed.ensures
    ∙ sym (only_place (has_serial c.args.block) es (length es - 1) (0, Device) once (omega (arith, some)) (eq-eqb _ _ last))

pub returns-in-Some : goal.returns-in-Some
returns-in-Some c =
    let es : List (ℕ × Kind) = (section_at c.args.queue.now c.args.section).sealed in
    let once = sealed-once c.args.queue.now c.args.section c.args.block c.requires.loose c.requires.there in
    sym (only_place (has_serial c.args.block) es c.in-Some.position (0, Device) once c.in-Some.ensures.within (eq-eqb _ _ c.in-Some.ensures.here))
