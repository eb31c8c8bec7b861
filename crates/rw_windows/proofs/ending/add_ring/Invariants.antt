use Rattle.std.proofs.Common.{◌≡◌, ◌++◌, map, take}
use Rattle.rw_vt.specs.System.{flatten}
use Rattle.rw_windows.proofs.ending.add_ring.Given as goal

abbrev pub invariant-loop-batch : goal.invariant-loop-batch
invariant-loop-batch g l = l.events.items ≡ l.initial.events.items ++ flatten (map (λ b. b.events) (take l.batch-index l.batches))
