use Rattle.std.proofs.Common.{◌≡◌}
use Rattle.std.specs.Fn.{iterate}
use Rattle.rw_phold.specs.Draws.{drawn}
use Rattle.rw_phold.proofs.phold.draw_on.Given as goal

abbrev pub invariant-loop-made : goal.invariant-loop-made
invariant-loop-made l = l.drawn ≡ iterate drawn l._made l.last
