use Rattle.std.proofs.Common.{◌∙◌, subst, sym}
use Rattle.std.specs.Bool.{Decides}
use Rattle.std.specs.Char.{is_ascii_digit}
use Rattle.std.specs.List.{AllPass}
use Rattle.std.proofs.lemmas.List.{take_rest}
use Rattle.rw_sweep.proofs.Fields.{ratio-by}
use Rattle.rw_sweep.proofs.joiner.columns.is_ratio.Goals as goal

pub returns : goal.returns
returns c =
    ratio-by c.are_digits.result c.args.field.now c.if-field-ne8.false (sym c.is_ascii_digit.ensures.value ∙ c.if-not-is_ascii_digit.false) c.if-field-ne46.false
    (subst (λ ds. Decides c.are_digits.result (AllPass is_ascii_digit ds)) (take_rest c.args.field.now 2) c.are_digits.ensures)
