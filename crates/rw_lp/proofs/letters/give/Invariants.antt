use Rattle.std.proofs.Common.{◌≡◌, ◌++◌}
use Rattle.std.proofs.Math.ListN.{take}
use Rattle.rw_vt.specs.Letters.{letters_of}
use Rattle.rw_lp.proofs.letters.give.Given as goal

abbrev pub invariant-loop-event : goal.invariant-loop-event
invariant-loop-event g l = l.out.items ≡ l.fn.out.items ++ letters_of l.anti (take l.event-index l.events)
