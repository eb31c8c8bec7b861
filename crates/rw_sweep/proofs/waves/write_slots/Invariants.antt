use Rattle.std.proofs.Common.{◌≡◌, [], true, take}
use Rattle.rw_sweep.specs.Working.{HasTaken}
use Rattle.rw_sweep.proofs.waves.write_slots.Given as goal

abbrev pub invariant-loop-index : goal.invariant-loop-index
invariant-loop-index g l = record {
  taken : HasTaken true l.rows (take l.index l.points) [] (g.W.Write.contents l.fn.out.writer) (g.W.Write.contents l.out.writer);
  failures : l.out.failures ≡ l.fn.out.failures;
}
