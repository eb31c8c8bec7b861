use Rattle.std.proofs.Common.{◌≡◌, ◌≤◌, take}
use Rattle.rw_photo.specs.Limits.{most_edges}
use Rattle.rw_sweep.specs.Grids.{least_of}
use Rattle.rw_sweep.proofs.grid.least_edges.Given as goal

abbrev pub invariant-loop-number : goal.invariant-loop-number
invariant-loop-number l = record {
  least : l.least ≡ least_of most_edges (take l.number-index l.numbers);
  few : l.least ≤ most_edges;
}
