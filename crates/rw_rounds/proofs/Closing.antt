-- How a worker closes.
use Rattle.std.proofs.Common.{List, ap}
use Rattle.rw_vt.specs.declared.event.Letter.{Letter}
use Rattle.rw_rounds.specs.Turns.{WorkerState, Closes}

-- the letters that are still to arrive do not matter
pub closes_with_inbox : {M S B : Type 0} (a b : WorkerState M S B) (inbox : List (Letter B)) → Closes a b → Closes (record a { inbox = inbox }) (record b { inbox = inbox })
closes_with_inbox {M} {S} {B} a b inbox k = ap {A = WorkerState M S B} (λ w. record w { inbox = inbox }) k
