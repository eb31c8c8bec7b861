-- The first column of the name.
use Rattle.std.proofs.Common.{◌<◌, ◌∙◌, length, sym, arith, below_more}
use Rattle.csv.specs.Records.{fields_of}
use Rattle.rw_plot.proofs.Named.{named-there, place-here, place-nowhere}
use Rattle.rw_plot.proofs.header.column_named.Goals as goal

pub returns-then-is_field : goal.returns-then-is_field
returns-then-is_field c =
    let fields = fields_of c.args.header.now in
    let less : c.loop-place.place < length fields = omega (arith, c.len-place-end.ensures) in
    let there = named-there fields c.loop-place.place c.args.name.now less in
    sym (place-here fields c.args.name.now c.loop-place.place less c.loop-place.invariant (sym there ∙ sym c.if-is_field.ensures))

pub loop-place-preserved : goal.loop-place-preserved
loop-place-preserved c =
    let fields = fields_of c.args.header.now in
    let less : c.loop-place.place < length fields = omega (arith, c.len-place-end.ensures) in
    let there = named-there fields c.loop-place.place c.args.name.now less in
    below_more _ _ c.loop-place.invariant (sym there ∙ sym c.if-is_field.ensures)

pub returns : goal.returns
returns c =
    sym (place-nowhere (fields_of c.args.header.now) c.args.name.now (λ k less. c.loop-place.invariant k (omega (arith, c.len-place-end.ensures))))
