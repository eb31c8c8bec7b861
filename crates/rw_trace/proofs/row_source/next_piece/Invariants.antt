use Rattle.std.proofs.Common.{◌≡◌, ◌≤◌, ◌+◌, ◌-◌, length}
use Rattle.std.specs.Prelude.{All}
use Rattle.rw_trace.specs.Laws.{IsRow}
use Rattle.rw_trace.specs.Pieces.{ComeFirst, RiseFrom, last_time}
use Rattle.rw_trace.proofs.row_source.next_piece.Given as goal

abbrev pub invariant-loop-source : goal.invariant-loop-source
invariant-loop-source g l = record {
  edges : (g.S.RowSource.rest l.source).edges ≡ (g.S.RowSource.rest l.fn.source).edges;
  most : (g.S.RowSource.rest l.source).most + length l.piece.items ≡ (g.S.RowSource.rest l.fn.source).most;
  few : length l.piece.items ≤ l.count;
  first : ComeFirst (g.S.RowSource.rest l.fn.source).ahead l.piece.items (g.S.RowSource.rest l.source).ahead;
  rising : RiseFrom (g.S.RowSource.rest l.fn.source).latest l.piece.items;
  latest : (g.S.RowSource.rest l.source).latest ≡ last_time (g.S.RowSource.rest l.fn.source).latest l.piece.items;
  ranges : All (IsRow (g.S.RowSource.rest l.fn.source).edges) l.piece.items;
}

abbrev pub decreases-loop-source : goal.decreases-loop-source
decreases-loop-source g l = l.count - length l.piece.items
