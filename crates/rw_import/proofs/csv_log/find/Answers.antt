-- The first field of the name.
use Rattle.std.proofs.Common.{◌∙◌, [], sym, ap, arith, below_more}
use Rattle.csv.specs.Records.{fields_of}
use Rattle.rw_trace.specs.Words.{Text}
use Rattle.rw_import.specs.Csv.{is_same_text}
use Rattle.rw_import.proofs.Texts.{field-stands, first-passes, none-passes}
use Rattle.rw_import.proofs.csv_log.find.Goals as goal

pub returns-then-eq : goal.returns-then-eq
returns-then-eq c =
    let fields = fields_of c.args.header.now in
    let same = λ (field : Text). is_same_text field c.args.name.now in
    let stands = c.field_of.ensures ∙ field-stands fields c.loop-place.place in
    sym (first-passes same fields c.loop-place.place [] (omega (arith, c.len-place-end.ensures)) c.loop-place.invariant (ap same (sym stands) ∙ sym c.if-eq.ensures))

pub loop-place-preserved : goal.loop-place-preserved
loop-place-preserved c =
    let fields = fields_of c.args.header.now in
    let stands = c.field_of.ensures ∙ field-stands fields c.loop-place.place in
    below_more _ _ c.loop-place.invariant (ap (λ (field : Text). is_same_text field c.args.name.now) (sym stands) ∙ sym c.if-eq.ensures)

pub returns : goal.returns
returns c =
    let same = λ (field : Text). is_same_text field c.args.name.now in
    sym (none-passes same (fields_of c.args.header.now) [] (λ k less. c.loop-place.invariant k (omega (arith, c.len-place-end.ensures))))
