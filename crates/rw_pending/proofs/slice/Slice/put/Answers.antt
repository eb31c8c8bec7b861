use Rattle.std.proofs.Common.{◌++◌, [], ◌∷◌, ◌∙◌, ap}
use Rattle.rw_pending.proofs.slice.Slice.put.Goals as goal

pub returns-clause-put : goal.returns-clause-put
returns-clause-put g c = c.in_ok-push.ensures.items ∙ ap (λ l. l ++ c.args.event.now ∷ []) c.clear.ensures.items
