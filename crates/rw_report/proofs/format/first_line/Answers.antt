use Rattle.std.proofs.Common.{eqb, rules, tests}
use Rattle.std.proofs.lemmas.Iterator.{YieldsList-from_slice}
use Rattle.std.proofs.lemmas.Iterator.Search.{position_from_yields_List}
use Rattle.rw_report.proofs.Pieces.{front}
use Rattle.rw_report.proofs.format.first_line.Goals as goal

pub returns : goal.returns
returns c =
    let found = position_from_yields_List (λ b. eqb b 10) _ _ c.position-newline.result c.position-newline.ensures.ran (YieldsList-from_slice c.args.text.now cc) (λ x b q k. search (rules, tests)) in
    front (λ b. eqb b 10) c.args.text.now c.position-newline.result c.unwrap_or.result found (search rules)
