use Rattle.std.proofs.Common.{◌≡◌, ◌++◌}
use Rattle.std.proofs.Math.ListN.{take}
use Rattle.rw_lp.specs.HeldMessages.{held_of}
use Rattle.rw_lp.proofs.held_back.HeldBack.hold_all.Given as goal

abbrev pub invariant-loop-message : goal.invariant-loop-message
invariant-loop-message g l = l.self ≡ l.fn.self ++ held_of l.event (take l.message-index l.messages)
