use Rattle.std.proofs.Common.{◌≡◌, ◌++◌, map, take}
use Rattle.rw_vt.specs.System.{flatten}
use Rattle.rw_windows.specs.Batches.{batch_events}
use Rattle.rw_windows.proofs.ending.add_row.Given as goal

abbrev pub invariant-loop-ring : goal.invariant-loop-ring
invariant-loop-ring g l = l.events.items ≡ l.initial.events.items ++ flatten (map (λ r. batch_events r.items) (take l.ring-index l.rings))
