use Rattle.std.proofs.Common.{◌∙◌, ap, take, List, ℕ}
use Rattle.std.proofs.lemmas.List.{take_rest}
use Rattle.rw_trace.proofs.Lines.{number-near}
use Rattle.rw_trace.proofs.plain.number_at.Goals as goal

pub returns : goal.returns
returns c =
    let is = c.in-Some.ensures.cases.same ∙ ap (λ (xs : List ℕ). take 18 xs) (take_rest c.args.bytes.now c.args.from) in
    number-near c.args.bytes.now c.args.from c.in-Some.near.now c.in-Some-short_number.value c.in-Some-short_number.next is c.requires c.in-Some-short_number.ensures
