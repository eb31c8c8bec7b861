use Rattle.std.proofs.Common.{◌++◌, ap, ◌∙◌}
use Rattle.rw_lp.specs.declared.history.Past.{Past}
use Rattle.rw_lp.specs.Calls.{LogicalProcess}
use Rattle.rw_lp.specs.HeldMessages.{held_messages}
use Rattle.rw_lp.proofs.lp.Lp.into_left.Goals as goal

pub returns-clause-state : goal.returns-clause-state
returns-clause-state g c = c.into_outcome-journal.ensures.1 ∙ ap (λ (v : Past g.row.M.Denot g.row.M-State.Denot g.row.M-Body.Denot g.row.M-Undo.Denot). v.state) c.into_inner.ensures ∙ ap (λ (w : LogicalProcess g.row.M.Denot g.row.M-State.Denot g.row.M-Body.Denot). w.process.state) c.lp.view_is

pub returns-clause-there : goal.returns-clause-there
returns-clause-there g c = c.in_ok-move_left.ensures.there ∙ ap (λ (w : LogicalProcess g.row.M.Denot g.row.M-State.Denot g.row.M-Body.Denot). c.args.there.now.items ++ w.process.pending) c.lp.view_is

pub returns-clause-owed : goal.returns-clause-owed
returns-clause-owed g c =
    c.in_ok-move_left.ensures.owed ∙ ap (λ l. c.args.owed.now.items ++ (c.lp.inside.debts ++ held_messages l)) c.deref.ensures
    ∙ ap (λ (w : LogicalProcess g.row.M.Denot g.row.M-State.Denot g.row.M-Body.Denot). c.args.owed.now.items ++ (w.process.debts ++ held_messages w.process.held)) c.lp.view_is
