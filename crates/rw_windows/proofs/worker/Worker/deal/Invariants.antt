use Rattle.std.proofs.Common.{take}
use Rattle.rw_windows.specs.Working.{IsDealt}
use Rattle.rw_windows.proofs.worker.Worker.deal.Given as goal

abbrev pub invariant-loop-event : goal.invariant-loop-event
invariant-loop-event g l = IsDealt l.fn.self l.self (take l.event-index l.sent)
