use Rattle.std.proofs.Common.{length}
use Rattle.rw_sweep.proofs.Feeding.{HasTakenPart}
use Rattle.rw_sweep.proofs.ongoing.feed_in_parts.Given as goal

abbrev pub invariant-parts : goal.invariant-parts
invariant-parts l = record {
  on : HasTakenPart l.piece l.fn.recording l.recording l.rest;
}

abbrev pub decreases-parts : goal.decreases-parts
decreases-parts l = length l.rest
