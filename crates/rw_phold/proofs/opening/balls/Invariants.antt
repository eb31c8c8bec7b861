use Rattle.std.proofs.Common.{◌≡◌}
use Rattle.std.specs.Fn.{iterate}
use Rattle.rw_phold.specs.Beginning.{first_balls}
use Rattle.rw_phold.specs.Draws.{drawn}
use Rattle.rw_phold.proofs.opening.balls.Given as goal

abbrev pub invariant-loop-number : goal.invariant-loop-number
invariant-loop-number l = record {
  random : l.random ≡ iterate drawn l.number l.seed;
  balls : l.balls.items ≡ first_balls l.phold l.number l.seed;
}
