use Rattle.std.proofs.Common.{◌≡◌, ◌∙◌, List, ℕ, sym}
use Rattle.std.proofs.lemmas.List.{take_rest}
use Rattle.rw_report.specs.Schedule.{end_of}
use Rattle.rw_report.proofs.Words.{found-end, none-end, words-found, words-last}
use Rattle.rw_report.proofs.schedule_text.first_word.Goals as goal

pub returns-in-Some-clause-words : goal.returns-in-Some-clause-words
returns-in-Some-clause-words c =
    let text : List ℕ = c.args.text.now in
    let found = found-end text c.in-Some.end (sym c.first_blank.ensures.found ∙ c.in-Some.is) in
    let e : end_of text ≡ c.in-Some.end = found.0 in
    let all = words-found text (rw e found.1) in
    rw take_rest (rw e at all)

pub returns-in-None-clause-words : goal.returns-in-None-clause-words
returns-in-None-clause-words c = words-last c.args.text.now (none-end c.args.text.now (sym c.first_blank.ensures.found ∙ c.in-None.is))
