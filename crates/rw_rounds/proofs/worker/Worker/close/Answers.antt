use Rattle.std.proofs.Common.{subst}
use Rattle.rw_rounds.specs.Turns.{Closes}
use Rattle.rw_rounds.specs.Working.{worker_of}
use Rattle.rw_rounds.proofs.Closing.{closes_with_inbox}
use Rattle.rw_rounds.proofs.worker.Worker.close.Goals as goal

pub returns : goal.returns
returns g c =
    let x = c.worker.inside in
    record {
      closes = subst (λ w. Closes w (record (worker_of c.close.new.self) { inbox = x.at_hand.items })) c.worker.view_is
          (closes_with_inbox (worker_of x.inner) (worker_of c.close.new.self) x.at_hand.items c.close.ensures.closes);
    }
