use Rattle.std.proofs.Common.{IfOk, [], sym, subst, append-nil}
use Rattle.std.proofs.lemmas.Result.{IfOk-weaker}
use Rattle.rw_vt.specs.System.{rules}
use Rattle.rw_lp.specs.Arrival.{undo_by}
use Rattle.rw_lp.specs.Calls.{GivesOut, Took, lazy_undoing_by}
use Rattle.rw_lp.specs.Sound.{KeepsBalance}
use Rattle.rw_lp.proofs.lp.Lp.undo_by.Goals as goal

pub returns-in-Lazy-clause-turn : goal.returns-in-Lazy-clause-turn
returns-in-Lazy-clause-turn g c =
    let x = c.args.self in
    let out = c.args.out.now.items in
    subst (λ way. IfOk c.undo_lazily.result (λ r. GivesOut out out (λ given. Took x.process r.0.process r.1 given (undo_by way (rules g.M.Model g.M.Body.Ord.cmp x.model) x.number x.process)))) (sym c.in-Lazy.is)
    (IfOk-weaker c.undo_lazily.result (λ r. Took x.process r.0.process r.1 [] (lazy_undoing_by g.M.Model g.M.Body.Ord.cmp x)) _ (λ r turn. ([], sym (append-nil out), turn)) c.undo_lazily.ensures.turn)

pub returns-in-Lazy-clause-balance : goal.returns-in-Lazy-clause-balance
returns-in-Lazy-clause-balance g c =
    let x = c.args.self in
    let out = c.args.out.now.items in
    IfOk-weaker c.undo_lazily.result (λ r. KeepsBalance g.M.Model g.M.Body.Ord.cmp x r.0 [] []) (λ r. GivesOut out out (KeepsBalance g.M.Model g.M.Body.Ord.cmp x r.0 []))
    (λ r balance. ([], sym (append-nil out), balance)) c.undo_lazily.ensures.balance
