use Rattle.std.proofs.Common.{◌≡◌, sym, ap, ◌∙◌, subst}
use Rattle.std.specs.Prelude.{slice_get}
use Rattle.rw_vt.specs.System.{rules}
use Rattle.rw_vt.proofs.Laws.{laws_of}
use Rattle.rw_rounds.specs.Turns.{IsFit, TookTurn}
use Rattle.rw_rounds.specs.Working.{worker_of}
use Rattle.rw_rounds.proofs.Fits.{fit_without_inbox, fit_and_sound}
use Rattle.rw_rounds.proofs.Taking.{turn_taken}
use Rattle.rw_rounds.proofs.worker.Worker.turn.Goals as goal

pub turn-requires-clause-ready : goal.turn-requires-clause-ready
turn-requires-clause-ready g c =
    let laws = laws_of g.met.M.Model g.met.M.Body.Ord.total in
    let x = c.worker.inside in
    let own = subst (IsFit g.M.Model g.M.Body.Ord.cmp c.args.model.now) (sym c.worker.view_is) c.requires.fit in
    record {
      worker =
          fit_and_sound g.M.Model g.M.Body.Ord.cmp c.args.model.now (worker_of x.inner)
          (fit_without_inbox laws c.args.model.now (record (worker_of x.inner) { inbox = x.at_hand.items }) own)
          (λ place l there. c.soundness.ensures.starts place l (ap (λ ls. slice_get ls place) c.as_slice.ensures ∙ there))
          (λ place l there. c.soundness.ensures.sound place l (ap (λ ls. slice_get ls place) c.as_slice.ensures ∙ there));
      board = subst (λ w. w.seat.board ≡ c.args.board.now.board) (sym c.worker.view_is) c.requires.board;
    }

pub returns-clause-fit : goal.returns-clause-fit
returns-clause-fit g c =
    subst (λ ls. IsFit g.M.Model g.M.Body.Ord.cmp c.args.model.now (record (worker_of c.turn.new.self) { inbox = ls })) (sym c.in_ok-executed.ensures.works.none_left) c.in_ok-executed.ensures.works.can_work.worker.fit

pub returns-clause-turn : goal.returns-clause-turn
returns-clause-turn g c =
    let x = c.worker.inside in
    let y = rules g.M.Model g.M.Body.Ord.cmp c.args.model.now in
    let before = record (worker_of x.inner) { inbox = x.at_hand.items } in
    let own = subst (IsFit g.M.Model g.M.Body.Ord.cmp c.args.model.now) (sym c.worker.view_is) c.requires.fit in
    let its = c.in_ok-executed.ensures in
    let taken = turn_taken y before (worker_of c.turn.new.self) c.in_ok-executed.executed own.inbox_own its.works.works its.within its.held_back in
    subst (λ a. TookTurn y a (record (worker_of c.turn.new.self) { inbox = c.turn.new.at_hand.items }) c.in_ok-executed.executed) c.worker.view_is
    (subst (λ i. TookTurn y before (record (worker_of c.turn.new.self) { inbox = i }) c.in_ok-executed.executed) (sym c.in_ok-executed.ensures.works.none_left) taken)
