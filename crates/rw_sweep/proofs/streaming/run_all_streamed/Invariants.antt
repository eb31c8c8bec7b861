use Rattle.std.proofs.Common.{◌≡◌}
use Rattle.rw_sweep.proofs.Feeding.{AreBetween}
use Rattle.rw_sweep.proofs.streaming.run_all_streamed.Given as goal

abbrev pub invariant-pieces : goal.invariant-pieces
invariant-pieces g l = record {
  between : AreBetween (record { start = l.fn.marks.start; every = l.fn.marks.every }) l.points (g.S.RowSource.rest l.fn.rows).edges (g.S.RowSource.rest l.fn.rows).ahead (g.S.RowSource.rest l.fn.rows).most (g.S.RowSource.rest l.rows).latest (g.S.RowSource.rest l.rows).most (g.S.RowSource.rest l.rows).ahead l.facts l.runs.items;
  edges : (g.S.RowSource.rest l.rows).edges ≡ (g.S.RowSource.rest l.fn.rows).edges;
}

abbrev pub decreases-pieces : goal.decreases-pieces
decreases-pieces g l = (g.S.RowSource.rest l.rows).most
