use Rattle.std.proofs.Common.{◌++◌, ap, ◌∙◌, append_assoc}
use Rattle.std.proofs.lemmas.Result.{on_ok_weaker}
use Rattle.rw_lp.specs.HeldMessages.{held_messages}
use Rattle.rw_lp.proofs.lp.move_left.Goals as goal

pub returns-clause-owed : goal.returns-clause-owed
returns-clause-owed g c = on_ok_weaker c.give_to.result (λ is. is ∙ ap (λ l. l ++ held_messages c.args.held.now) c.in_ok-move_to-2.ensures ∙ append_assoc c.args.owed.now.items c.args.debts.now (held_messages c.args.held.now)) c.give_to.ensures
