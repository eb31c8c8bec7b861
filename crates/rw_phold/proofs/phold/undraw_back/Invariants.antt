use Rattle.std.proofs.Common.{◌≡◌}
use Rattle.std.specs.Fn.{iterate}
use Rattle.rw_phold.specs.Draws.{undrawn}
use Rattle.rw_phold.proofs.phold.undraw_back.Given as goal

abbrev pub invariant-loop-made : goal.invariant-loop-made
invariant-loop-made l = l.undrawn ≡ iterate undrawn l._made l.next
