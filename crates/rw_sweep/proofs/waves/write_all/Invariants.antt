use Rattle.std.proofs.Common.{◌≡◌, All, length}
use Rattle.rw_sweep.specs.Working.{CanRun}
use Rattle.rw_sweep.proofs.Taken.{AreLeft}
use Rattle.rw_sweep.proofs.waves.write_all.Given as goal

abbrev pub invariant-loop-rest : goal.invariant-loop-rest
invariant-loop-rest g l = record {
  left : AreLeft l.batch.rows.now l.batch.points.now l.rest l.header (g.W.Write.contents l.fn.out.writer) (g.W.Write.contents l.out.writer);
  can_run : All (CanRun l.batch.rows.now) l.rest;
  failures : l.out.failures ≡ l.fn.out.failures;
}

abbrev pub decreases-loop-rest : goal.decreases-loop-rest
decreases-loop-rest g l = length l.rest
