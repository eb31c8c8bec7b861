use Rattle.std.proofs.Common.{◌≡◌, ◌<◌, ℕ, length}
use Rattle.rw_sweep.specs.PartLines.{IsOfColumn, part_field}
use Rattle.rw_sweep.proofs.joiner.columns.first_misfit.Given as goal

abbrev pub invariant-loop-field : goal.invariant-loop-field
invariant-loop-field l = record {
  many : l.column ≡ length l.yielded;
  before : (k : ℕ) → k < l.column → IsOfColumn k (part_field l.body k);
}
