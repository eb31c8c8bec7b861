-- The digits so far have the value so far, and few digits have a small one.
use Rattle.std.proofs.Common.{◌∙◌, ◌+◌, ◌*◌, ◌≤◌, ◌<◌, refl, sym, subst, arith, get_or, length, rules}
use Rattle.rw_trace.proofs.Lines.{AreDigits, digit-low, no-digits, number-at, one-digit, small-fits, small-more}
use Rattle.rw_trace.proofs.plain.short_number.Goals as goal

pub loop-at-init : goal.loop-at-init
loop-at-init c = record { small = omega arith; digits = no-digits c.args.bytes.now 0 }

pub returns-then-at-gt0 : goal.returns-then-at-gt0
returns-then-at-gt0 c =
    let within : c.loop-at.at < length c.args.bytes.now = search rules in
    let small = small-fits c.loop-at.value c.loop-at.at c.loop-at.invariant.small (omega (arith, c.loop-at-test.true)) in
    number-at c.args.bytes.now 0 c.loop-at.at c.loop-at.value c.loop-at.invariant.digits (omega (arith, within)) (omega (arith, c.if-at-gt0.true)) (omega (arith, c.loop-at-test.true)) (omega (arith, small))

pub overflow_mul-value : goal.overflow_mul-value
overflow_mul-value c =
    let small = small-fits c.loop-at.value c.loop-at.at c.loop-at.invariant.small (omega (arith, c.loop-at-test.true)) in
    omega (arith, small)

pub overflow_add-value : goal.overflow_add-value
overflow_add-value c =
    let small = small-fits c.loop-at.value c.loop-at.at c.loop-at.invariant.small (omega (arith, c.loop-at-test.true)) in
    let b = get_or c.args.bytes.now c.loop-at.at 0 in
    omega (arith, small, c.from.ensures, digit-low b (sym c.is_ascii_digit.ensures.value ∙ c.if-not-is_ascii_digit.false))

pub loop-at-preserved : goal.loop-at-preserved
loop-at-preserved c =
    let b = get_or c.args.bytes.now c.loop-at.at 0 in
    let digit = sym c.is_ascii_digit.ensures.value ∙ c.if-not-is_ascii_digit.false in
    let within : c.loop-at.at < length c.args.bytes.now = search rules in
    let more = one-digit c.args.bytes.now 0 c.loop-at.at c.loop-at.value b c.loop-at.invariant.digits within refl digit in
    let low : c.from.result ≤ 9 = omega (arith, c.from.ensures, digit-low b digit) in
    record {
      small = small-more c.loop-at.value c.loop-at.at c.from.result c.loop-at.invariant.small low;
      digits = subst (λ d. AreDigits c.args.bytes.now 0 (c.loop-at.at + 1) (c.loop-at.value * 10 + d)) (sym c.from.ensures) more;
    }
