use Rattle.std.proofs.Common.{subst}
use Rattle.std.specs.Bool.{Decides}
use Rattle.std.specs.Char.{is_ascii_digit}
use Rattle.std.specs.List.{AllPass}
use Rattle.std.proofs.lemmas.List.{take_rest}
use Rattle.rw_sweep.proofs.Fields.{decimals-decide}
use Rattle.rw_sweep.proofs.joiner.columns.is_decimal.Goals as goal

pub returns : goal.returns
returns c =
    let whole = c.split_at.result.0.now in
    let rest = c.split_at.result.1.now in
    decimals-decide c.args.field.now whole rest c.split_at.ensures.front c.split_at.ensures.back c.are_digits.result c.if-field-lt7.false (c.is_number.ensures.0 c.if-not-is_number.false) c.if-rest-ne46.false
    (subst (λ ds. Decides c.are_digits.result (AllPass is_ascii_digit ds)) (take_rest rest 1) c.are_digits.ensures)
