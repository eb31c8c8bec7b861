use Rattle.std.proofs.Common.{◌↔◌, ◌++◌, List, length}
use Rattle.rw_trace.specs.declared.Row.{Row}
use Rattle.rw_photo.specs.Rows.{AreInOrderFrom}
use Rattle.rw_photo.proofs.ordered_requests.latest_in_order.Given as goal

abbrev pub invariant-loop-row : goal.invariant-loop-row
invariant-loop-row l = (more : List Row) → AreInOrderFrom l.from (l.rows ++ more) ↔ AreInOrderFrom l.latest (l.left ++ more)

abbrev pub decreases-loop-row : goal.decreases-loop-row
decreases-loop-row l = length l.left
