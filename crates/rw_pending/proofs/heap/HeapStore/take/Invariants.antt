use Rattle.std.proofs.Common.{◌≡◌, ◌++◌, All, List, IsPermutation, length}
use Rattle.rw_vt.specs.declared.event.Event.{Event}
use Rattle.rw_pending.proofs.heap.HeapStore.take.Given as goal

abbrev pub invariant-loop-self : goal.invariant-loop-self
invariant-loop-self g l =
    (moved : List (Event _)) × (l.taken.items ≡ l.fn.taken.items ++ moved) × IsPermutation l.fn.self (moved ++ l.self) × All (λ e. e.time ≡ l.time) moved

abbrev pub decreases-loop-self : goal.decreases-loop-self
decreases-loop-self g l = length l.self
