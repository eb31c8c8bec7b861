use Rattle.std.proofs.Common.{◌≡◌, sym, subst}
use Rattle.rw_vt.specs.System.{rules}
use Rattle.rw_vt.proofs.Laws.{laws_of}
use Rattle.rw_rounds.specs.Turns.{TookTurns}
use Rattle.rw_rounds.specs.Working.{worker_of, with_inbox, IsFitAndSound}
use Rattle.rw_rounds.proofs.Fits.{fit_without_inbox}
use Rattle.rw_rounds.proofs.worker.Worker.turns.Goals as goal

pub turns-requires-clause-ready : goal.turns-requires-clause-ready
turns-requires-clause-ready g c =
    let laws = laws_of g.met.M.Model g.met.M.Body.Ord.total in
    let x = c.worker.inside in
    let own = subst (IsFitAndSound g.M.Model g.M.Body.Ord.cmp c.args.model.now) (sym c.worker.view_is) c.requires.fit in
    record {
      worker = record { fit = fit_without_inbox laws c.args.model.now (record (worker_of x.inner) { inbox = x.at_hand.items }) own.fit; starts = own.starts; sound = own.sound };
      board = subst (λ w. w.seat.board ≡ c.args.board.now.board) (sym c.worker.view_is) c.requires.board;
    }

pub turns-requires-clause-fit : goal.turns-requires-clause-fit
turns-requires-clause-fit g c = (subst (IsFitAndSound g.M.Model g.M.Body.Ord.cmp c.args.model.now) (sym c.worker.view_is) c.requires.fit).fit

pub returns-clause-turns : goal.returns-clause-turns
returns-clause-turns g c =
    subst (λ a. TookTurns (rules g.M.Model g.M.Body.Ord.cmp c.args.model.now) c.args.turns a (with_inbox c.turns.new.self c.turns.new.at_hand.items)) c.worker.view_is c.in_ok-turns.ensures.took

pub returns-clause-fit : goal.returns-clause-fit
returns-clause-fit g c = c.in_ok-turns.ensures.fit

pub returns-clause-board : goal.returns-clause-board
returns-clause-board g c = c.in_ok-turns.ensures.board
