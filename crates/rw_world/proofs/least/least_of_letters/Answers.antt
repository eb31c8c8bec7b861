use Rattle.std.proofs.Common.{◌+◌, ◌∷◌, drop, sym, ap, ◌∙◌}
use Rattle.std.proofs.lemmas.List.{at_drop_more}
use Rattle.rw_world.specs.WorldState.{least_of_letters}
use Rattle.rw_world.proofs.Floors.{letters_min}
use Rattle.std.proofs.lemmas.List.{drop_all}
use Rattle.std.proofs.Common.{arith}
use Rattle.rw_world.proofs.least.least_of_letters.Goals as goal

pub loop-letter-preserved : goal.loop-letter-preserved
loop-letter-preserved g c =
    let ls = c.args.letters.now in
    let k = c.loop-letter.letter-index in
    let now = c.loop-letter.least in
    let l = c.letter-item.result in
    let rest = drop (k + 1) ls in
    ap (λ n. least_of_letters n rest) c.min-least.ensures
    ∙ letters_min now l.event.time rest
    ∙ ap (λ m. least_of_letters now (m ∷ rest)) c.letter-item.is
    ∙ sym (at_drop_more (least_of_letters now) ls k l c.loop-letter-test.true)
    ∙ c.loop-letter.invariant

pub returns : goal.returns
returns g c = sym (ap (least_of_letters c.loop-letter.least) (drop_all c.loop-letter.letter-index c.args.letters.now (omega arith))) ∙ c.loop-letter.invariant
