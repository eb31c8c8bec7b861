use Rattle.std.proofs.Common.{[], ◌∷◌, ◌++◌, sym, ap, ◌∙◌}
use Rattle.std.proofs.lemmas.Iterator.Adapters.{YieldsList-from_vec}
use Rattle.std.proofs.lemmas.Iterator.Consumers.{YieldsList-end}
use Rattle.std.proofs.lemmas.List.{map-append, map-id}
use Rattle.rw_models.specs.Recorded.{states_of}
use Rattle.rw_engine.proofs.output.into_states.Goals as goal

pub loop-record-preserved : goal.loop-record-preserved
loop-record-preserved g c =
    let record' = c.in-Some.record in
    c.in_ok-push.ensures.items ∙ ap (λ l. l ++ record'.state ∷ []) c.loop-record.invariant ∙ sym (map-append (λ r. r.state) c.loop-record.yielded (record' ∷ []))

pub returns : goal.returns
returns g c =
    let gives = c.into_iter-record-iterator.ensures.into_iter_gives in
    let all = YieldsList-end (YieldsList-from_vec c.args.records.items gives.0 (gives.1 ∙ c.args.records.ok.0)) c.loop-record.yielded c.loop-record.record-iterator c.loop-record.yielded_by c.next.result c.next.new.self c.in-None.is c.next.ensures.steps in
    c.loop-record.invariant ∙ ap states_of (sym (map-id c.loop-record.yielded) ∙ all.0)
