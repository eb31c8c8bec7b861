use Rattle.std.proofs.Common.{◌≡◌, [], ◌∷◌, ◌++◌, ◌∙◌, ap}
use Rattle.std.proofs.lemmas.Result.{on_err_weaker, on_ok_weaker}
use Rattle.rw_pending.proofs.ByTime.{left_moved}
use Rattle.rw_pending.proofs.Next.{gathered, gathered_times}
use Rattle.rw_pending.proofs.pending.gather.Goals as goal

pub returns-clause-moved : goal.returns-clause-moved
returns-clause-moved g c =
    let held : c.push.new.self.items ≡ c.args.first.now ∷ [] = c.in_ok-push.ensures.items ∙ ap (λ l. l ++ c.args.first.now ∷ []) c.clear.ensures.items in
    on_ok_weaker c.fill.result (λ filled. gathered c.in_ok-take.ensures.moved held filled) c.fill.ensures.filled

pub returns-clause-times : goal.returns-clause-times
returns-clause-times g c =
    let held : c.push.new.self.items ≡ c.args.first.now ∷ [] = c.in_ok-push.ensures.items ∙ ap (λ l. l ++ c.args.first.now ∷ []) c.clear.ensures.items in
    on_ok_weaker c.fill.result (λ filled. gathered_times c.in_ok-take.ensures.moved held filled) c.fill.ensures.filled

pub returns-clause-lost : goal.returns-clause-lost
returns-clause-lost g c = on_err_weaker c.fill.result (λ none. (none, left_moved c.in_ok-take.ensures.moved)) c.fill.ensures.none
