use Rattle.std.proofs.Common.{◌∙◌, ◌++◌, ◌∷◌, [], ℕ, List, All, ap, sym, subst, take, take_all}
use Rattle.std.specs.Prelude.{MatchResult, ⊤}
use Rattle.std.proofs.lemmas.List.{take_more}
use Rattle.std.proofs.lemmas.List.Elements.{All-push, All-same}
use Rattle.rw_sweep.specs.declared.ongoing.OngoingRun.{OngoingRun}
use Rattle.rw_sweep.specs.Ongoing.{HasNotEnded}
use Rattle.rw_sweep.proofs.ongoing.first_refusal.Goals as goal

pub returns-in-Err-clause-ended : goal.returns-in-Err-clause-ended
returns-in-Err-clause-ended c = (c.loop-run.run-index, c.run-item.result, c.loop-run-test.true, sym c.run-item.is, c.in-Err.is)

pub loop-run-preserved : goal.loop-run-preserved
loop-run-preserved c =
    let n : ℕ = c.loop-run.run-index in
    let runs : List OngoingRun = c.args.runs.now in
    let g : OngoingRun = c.run-item.result in
    let not_ended : HasNotEnded g = subst (λ r. MatchResult r (λ s. ⊤) (λ e. ⊥)) (sym c.in_default.is) tt in
    All-same HasNotEnded _ _ (take_more runs n g c.loop-run-test.true ∙ ap (λ x. take n runs ++ x ∷ []) (sym c.run-item.is))
    (All-push HasNotEnded (take n runs) g c.loop-run.invariant not_ended)

pub returns-clause-not_ended : goal.returns-clause-not_ended
returns-clause-not_ended c = subst (All HasNotEnded) (take_all c.loop-run.run-index c.args.runs.now c.loop-run-test.false) c.loop-run.invariant
