use Rattle.std.proofs.Common.{[], ◌∷◌, ◌++◌, ap, ◌∙◌}
use Rattle.rw_lp.proofs.history.Past.note.Goals as goal

pub returns-clause-records : goal.returns-clause-records
returns-clause-records g c =
    c.in_ok-push.ensures ∙ ap (λ sends. c.args.self.now.records ++ record { sends = sends; undo = c.args.undo } ∷ []) c.take_from-sends.ensures.taken
