use Rattle.std.proofs.Common.{◌++◌, true, refl, sym, ap, ◌∙◌, subst, Option}
use Rattle.rw_vt.specs.Letters.{letters_of}
use Rattle.rw_vt.specs.Order.{event_cmp}
use Rattle.rw_lp.specs.declared.answer.Answer.TheVariants.{Done}
use Rattle.rw_lp.specs.declared.undo_record.Undone.{Undone}
use Rattle.rw_lp.specs.PendingAgain.{IsPendingAgain, sent_by}
use Rattle.rw_lp.proofs.lp.cancel_undone.Goals as goal

pub returns-clause-pending : goal.returns-clause-pending
returns-clause-pending g c =
    subst (λ (u : Option (Undone g.row.M-Body.Denot)). IsPendingAgain (event_cmp g.M.Body.Ord.cmp) u c.args.pending.now Done c.put.new.self) (sym c.in-Some.is) (refl, c.in_ok-put.ensures.ok)

pub returns-clause-out : goal.returns-clause-out
returns-clause-out g c = c.in_ok-cancel.ensures.given ∙ ap (λ (u : Option (Undone g.row.M-Body.Denot)). c.args.out.now.items ++ letters_of true (sent_by u)) (sym c.in-Some.is)
