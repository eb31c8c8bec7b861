use Rattle.std.proofs.Common.{◌≡◌, drop}
use Rattle.rw_world.specs.WorldState.{least_of_letters}
use Rattle.rw_world.proofs.least.least_of_letters.Given as goal

abbrev pub invariant-loop-letter : goal.invariant-loop-letter
invariant-loop-letter g l = least_of_letters l.least (drop l.letter-index l.letters) ≡ least_of_letters l.start l.letters
