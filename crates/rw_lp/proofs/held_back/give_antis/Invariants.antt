use Rattle.std.proofs.Common.{◌≡◌, ◌++◌, true}
use Rattle.std.proofs.Math.ListN.{take}
use Rattle.rw_vt.specs.Letters.{letters_of}
use Rattle.rw_lp.specs.HeldMessages.{held_messages}
use Rattle.rw_lp.proofs.held_back.give_antis.Given as goal

abbrev pub invariant-loop-pair : goal.invariant-loop-pair
invariant-loop-pair g l = l.out.items ≡ l.fn.out.items ++ letters_of true (held_messages (take l.pair-index l.pairs))
