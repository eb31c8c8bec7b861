use Rattle.std.proofs.Common.{length, refl, arith}
use Rattle.std.proofs.lemmas.Option.{slice_get_read}
use Rattle.rw_lp.specs.Sound.{IsSoundOnceCollected, StartsWell}
use Rattle.rw_rounds.proofs.ByPlace.{get_within}
use Rattle.rw_rounds.proofs.Looking.{one_more}
use Rattle.rw_rounds.proofs.worker.soundness.Goals as goal

pub loop-process-preserved : goal.loop-process-preserved
loop-process-preserved g c =
    let xs = c.args.processes.now in
    let k = c.loop-process.process-index in
    let x = c.process-item.result in
    let read = slice_get_read xs (length xs) k x refl c.loop-process-test.true c.process-item.is in
    record {
      starts = one_more xs k x read (StartsWell g.M.Model) c.loop-process.invariant.starts c.soundness.ensures.starts;
      sound = one_more xs k x read (IsSoundOnceCollected g.M.Model g.M.Body.Ord.cmp) c.loop-process.invariant.sound c.soundness.ensures.sound;
    }

pub returns-clause-starts : goal.returns-clause-starts
returns-clause-starts g c place l there =
    c.loop-process.invariant.starts place l (omega (arith, get_within c.args.processes.now place l there, c.loop-process-test.false)) there

pub returns-clause-sound : goal.returns-clause-sound
returns-clause-sound g c place l there =
    c.loop-process.invariant.sound place l (omega (arith, get_within c.args.processes.now place l there, c.loop-process-test.false)) there
