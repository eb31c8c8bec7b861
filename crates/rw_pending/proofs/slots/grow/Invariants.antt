use Rattle.std.proofs.Common.{◌≡◌, ◌-◌, ◌+◌, ℕ, length}
use Rattle.rw_pending.specs.Wheel.{all_of, slot_at}
use Rattle.rw_pending.proofs.slots.grow.Given as goal

abbrev pub invariant-loop-alloc : goal.invariant-loop-alloc
invariant-loop-alloc g l = ((k : ℕ) → slot_at l.slots.items k ≡ slot_at l.fn.slots.items k) × (all_of l.slots.items ≡ all_of l.fn.slots.items)

abbrev pub decreases-loop-alloc : goal.decreases-loop-alloc
decreases-loop-alloc g l = l.at + 1 - length l.slots.items
