use Rattle.std.proofs.Common.{◌≡◌, ◌++◌, map, take}
use Rattle.rw_vt.specs.System.{flatten}
use Rattle.rw_windows.specs.Batches.{events_in}
use Rattle.rw_windows.proofs.ending.add_left.Given as goal

abbrev pub invariant-loop-row : goal.invariant-loop-row
invariant-loop-row g l = l.events.items ≡ l.initial.events.items ++ flatten (map (λ row. events_in (map (λ ring. ring.items) row.items)) (take l.row-index l.rows))
