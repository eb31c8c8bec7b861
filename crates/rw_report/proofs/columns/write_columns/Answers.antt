use Rattle.std.proofs.Common.{◌++◌, ℕ, List, ap, codes, decimal, get_or, sym, take, take_all, ◌∙◌}
use Rattle.std.proofs.lemmas.List.{flat_map_more, take_more}
use Rattle.rw_report.specs.Columns.{columns_of}
use Rattle.rw_report.proofs.columns.write_columns.Goals as goal

pub loop-number-preserved : goal.loop-number-preserved
loop-number-preserved c =
    let numbers : List ℕ = c.args.numbers.now in
    let i = c.loop-number.number-index in
    let column : ℕ → List ℕ = λ n. codes "," ++ decimal n in
    c.in_ok-write_column.ensures
    ∙ ap (λ l. l ++ column (get_or numbers i 0)) c.loop-number.invariant
    ∙ flat_map_more column c.args.text.now.items (take i numbers) (get_or numbers i 0)
    ∙ ap (λ ns. c.args.text.now.items ++ columns_of ns) (sym (take_more numbers i 0 c.loop-number-test.true))

pub returns : goal.returns
returns c =
    let numbers : List ℕ = c.args.numbers.now in
    c.loop-number.invariant ∙ ap (λ ns. c.args.text.now.items ++ columns_of ns) (take_all c.loop-number.number-index numbers c.loop-number-test.false)
