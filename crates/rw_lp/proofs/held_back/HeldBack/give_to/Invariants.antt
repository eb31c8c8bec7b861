use Rattle.std.proofs.Common.{◌≡◌, ◌++◌}
use Rattle.std.proofs.Math.ListN.{take}
use Rattle.rw_lp.specs.HeldMessages.{held_messages}
use Rattle.rw_lp.proofs.held_back.HeldBack.give_to.Given as goal

abbrev pub invariant-loop-pair : goal.invariant-loop-pair
invariant-loop-pair g l = l.out.items ≡ l.fn.out.items ++ held_messages (take l.pair-index l.pairs)
