-- Of the fields so far none has a line end inside it.
use Rattle.std.proofs.Common.{◌∙◌, Bool, [], sym, ap, arith, below_more}
use Rattle.std.specs.List.{list_any}
use Rattle.std.specs.Prelude.{not}
use Rattle.csv.specs.Records.{fields_of}
use Rattle.rw_import.specs.Csv.{is_line_end}
use Rattle.rw_import.proofs.Texts.{any-at, any-nowhere, field-stands}
use Rattle.rw_import.proofs.csv_row.is_on_one_line.Goals as goal

pub loop-place-init : goal.loop-place-init
loop-place-init c = λ k less. absurd (omega (arith, less))

pub returns-then-has_line_end : goal.returns-then-has_line_end
returns-then-has_line_end c =
    let fields = fields_of c.args.fields.now in
    let ends = list_any is_line_end in
    let stands = c.field_of.ensures ∙ field-stands fields c.loop-place.place in
    let one = ap ends (sym stands) ∙ sym c.has_line_end.ensures ∙ c.if-has_line_end.true in
    ap (λ (b : Bool). not b) (sym (any-at ends [] fields c.loop-place.place (omega (arith, c.len-place-end.ensures, c.loop-place-test.true)) one))

pub loop-place-preserved : goal.loop-place-preserved
loop-place-preserved c =
    let fields = fields_of c.args.fields.now in
    let ends = list_any is_line_end in
    let stands = c.field_of.ensures ∙ field-stands fields c.loop-place.place in
    below_more _ _ c.loop-place.invariant (ap ends (sym stands) ∙ sym c.has_line_end.ensures ∙ c.if-has_line_end.false)

pub returns : goal.returns
returns c =
    let ends = list_any is_line_end in
    ap (λ (b : Bool). not b) (sym (any-nowhere ends [] (fields_of c.args.fields.now) (λ k less. c.loop-place.invariant k (omega (arith, less, c.len-place-end.ensures, c.loop-place-test.false)))))
