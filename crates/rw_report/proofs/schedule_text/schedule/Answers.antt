use Rattle.std.proofs.Common.{◌≡◌, ◌+◌, ◌++◌, ◌∷◌, [], ◌∙◌, ℕ, List, Option, Bor, true, rules, sym, ap, arith}
use Rattle.std.specs.Result.{is_ok}
use Rattle.rw_world.specs.declared.step.Step.{Step}
use Rattle.rw_report.proofs.Words.{after_steps, bad-word, left_steps, one-more, smaller}
use Rattle.rw_report.proofs.schedule_text.schedule.Goals as goal

pub returns-in_default-step-clause-word : goal.returns-in_default-step-clause-word
returns-in_default-step-clause-word c = λ _.
    let steps : List Step = c.loop-left.steps.items in
    let index : ℕ = c.loop-left.index in
    let text : List ℕ = c.in-Some.text.now in
    c.loop-left.invariant.said
    ∙ (ap (λ left. after_steps steps (left_steps index left)) c.in-Some.is
    ∙ ap (after_steps steps) (bad-word index text c.first_word.result.0.now c.first_word.result.1 c.first_word.ensures.words (sym c.step.ensures ∙ c.in_default-step.is)))

pub loop-left-preserved : goal.loop-left-preserved
loop-left-preserved c =
    let steps : List Step = c.loop-left.steps.items in
    let index : ℕ = c.loop-left.index in
    let text : List ℕ = c.in-Some.text.now in
    let rest : Option (Bor (List ℕ)) = c.first_word.result.1 in
    let good : is_ok c.push.result ≡ true = search rules in
    let items : c.push.new.self.items ≡ steps ++ c.in-Some-step.step ∷ [] = rw good at c.push.ensures.items in
    let bounded = rw c.in-Some.is at c.loop-left.invariant.bounded in
    let less = smaller text rest c.first_word.ensures.shorter in
    record {
      said =
          c.loop-left.invariant.said
          ∙ (ap (λ left. after_steps steps (left_steps index left)) c.in-Some.is
          ∙ (one-more steps c.in-Some-step.step index text c.first_word.result.0.now rest c.first_word.ensures.words (sym c.step.ensures ∙ c.in-Some-step.is)
          ∙ ap (λ made. after_steps made (left_steps (index + 1) rest)) (sym items)));
      bounded = omega (arith, bounded, less);
    }
