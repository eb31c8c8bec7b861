use Rattle.std.proofs.Common.{◌≡◌, ◌+◌, ◌<◌, ◌++◌, ◌∙◌, ℕ, suc, List, refl, sym, ap, arith, take, get_or, length, zero-add, append_assoc}
use Rattle.rw_vt.specs.System.{flatten, map_from}
use Rattle.rw_lp.specs.declared.answer.Answer.{Answer}
use Rattle.rw_lp.specs.declared.answer.Answer.TheVariants.{Done}
use Rattle.rw_report.specs.Journal.{answer_line}
use Rattle.rw_report.proofs.Journals.{numbered-more}
use Rattle.rw_report.proofs.journal_text.write_answers.Goals as goal

pub loop-step-preserved : goal.loop-step-preserved
loop-step-preserved c =
    let n : ℕ = c.loop-step.step in
    let answers : List Answer = c.args.answers.now in
    let text : List ℕ = c.args.text.now.items in
    let lines : ℕ → List ℕ = λ k. flatten (map_from 0 answer_line (take k answers)) in
    let next : n + 1 ≡ suc n = omega arith in
    let within : n < length answers = c.loop-step-test.true in
    let more : lines (suc n) ≡ lines n ++ answer_line n (get_or answers n Done) = numbered-more answer_line 0 n answers Done within ∙ rw zero-add refl in
    rw next (c.in_ok-write_answer.ensures
    ∙ (ap (λ t. t ++ answer_line n (get_or answers n Done)) c.loop-step.invariant
    ∙ (append_assoc text (lines n) (answer_line n (get_or answers n Done)) ∙ ap (λ t. text ++ t) (sym more))))
