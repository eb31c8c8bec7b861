use Rattle.std.proofs.Common.{◌≡◌, ◌++◌, All, List, IsPermutation, length}
use Rattle.rw_vt.specs.declared.event.Event.{Event}
use Rattle.rw_pending.proofs.slot.Slot.take_each.Given as goal

abbrev pub invariant-loop-next : goal.invariant-loop-next
invariant-loop-next g l =
    (moved : List (Event _)) × (l.taken.items ≡ l.fn.taken.items ++ moved) × IsPermutation l.fn.self (moved ++ l.self) × All (λ e. e.time ≡ l.time) moved

abbrev pub decreases-loop-next : goal.decreases-loop-next
decreases-loop-next g l = length l.self
