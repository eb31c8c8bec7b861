use Rattle.std.proofs.Common.{All, take}
use Rattle.rw_sweep.specs.Ongoing.{HasNotEnded}
use Rattle.rw_sweep.proofs.ongoing.first_refusal.Given as goal

abbrev pub invariant-loop-run : goal.invariant-loop-run
invariant-loop-run l = All HasNotEnded (take l.run-index l.runs)
