use Rattle.std.proofs.Common.{◌++◌, ◌∷◌, [], List, ap, map, sym, take_all, ◌∙◌}
use Rattle.std.proofs.lemmas.List.{map_more}
use Rattle.std.proofs.lemmas.Result.{IfOk-from_err}
use Rattle.rw_photo.specs.Cache.{Cache}
use Rattle.rw_report.proofs.moments.counters_of.Goals as goal

pub loop-state-preserved : goal.loop-state-preserved
loop-state-preserved c =
    let states : List Cache = c.args.states.now in
    let s : Cache = c.state-item.result in
    let own = c.counters.ensures ∙ ap (λ (x : Cache). x.counters) c.state-item.is in
    c.in_ok-push.ensures.items
    ∙ (λ i. c.loop-state.invariant i ++ own i ∷ [])
    ∙ sym (map_more (λ (x : Cache). x.counters) states c.loop-state.state-index s c.loop-state-test.true)

pub returns : goal.returns
returns c =
    let states : List Cache = c.args.states.now in
    c.loop-state.invariant ∙ ap (map (λ (x : Cache). x.counters)) (take_all c.loop-state.state-index states c.loop-state-test.false)

pub returns-in_err-push : goal.returns-in_err-push
returns-in_err-push c = IfOk-from_err c.from_residual-in_err-push.result _ c.from_residual-in_err-push.ensures.0
