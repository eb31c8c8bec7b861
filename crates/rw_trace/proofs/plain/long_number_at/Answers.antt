-- The digits so far have the value so far.
use Rattle.std.proofs.Common.{◌∙◌, ◌+◌, ◌*◌, refl, sym, subst, arith, get_or}
use Rattle.rw_trace.proofs.Lines.{AreDigits, digit-low, no-digits, number-at, one-digit}
use Rattle.rw_trace.proofs.plain.long_number_at.Goals as goal

pub loop-at-init : goal.loop-at-init
loop-at-init c = record { fits = omega arith; within = c.requires; digits = no-digits c.args.bytes.now c.args.from }

pub loop-at-preserved : goal.loop-at-preserved
loop-at-preserved c =
    let b = get_or c.args.bytes.now c.loop-at.at 0 in
    let digit = sym c.is_ascii_digit.ensures.value ∙ c.if-is_ascii_digit.true in
    let more = one-digit c.args.bytes.now c.args.from c.loop-at.at c.loop-at.value b c.loop-at.invariant.digits c.loop-at-test.true refl digit in
    record {
      fits = omega (arith, c.from.ensures, digit-low b digit, c.if-value-gt-ROOM.false);
      within = omega (arith, c.loop-at-test.true);
      digits = subst (λ d. AreDigits c.args.bytes.now c.args.from (c.loop-at.at + 1) (c.loop-at.value * 10 + d)) (sym c.from.ensures) more;
    }

pub returns-then-at-from-le-MAX_DIGITS : goal.returns-then-at-from-le-MAX_DIGITS
returns-then-at-from-le-MAX_DIGITS c =
    number-at c.args.bytes.now c.args.from c.loop-at.at c.loop-at.value c.loop-at.invariant.digits c.loop-at.invariant.within (omega (arith, c.if-at-from.true)) (omega (arith, c.if-at-from-le-MAX_DIGITS.true))
    c.loop-at.invariant.fits
