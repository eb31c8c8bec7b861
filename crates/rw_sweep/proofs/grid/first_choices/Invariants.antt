use Rattle.std.proofs.Common.{◌≡◌, map, take}
use Rattle.rw_sweep.specs.Widening.{first_choice}
use Rattle.rw_sweep.proofs.grid.first_choices.Given as goal

abbrev pub invariant-loop-policy : goal.invariant-loop-policy
invariant-loop-policy l = l.choices.items ≡ map first_choice (take l.policy-index l.policies)
