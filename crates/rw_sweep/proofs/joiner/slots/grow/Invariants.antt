use Rattle.std.proofs.Common.{◌≤◌, [], ◌+◌, ◌-◌, length, max, vec_len}
use Rattle.rw_sweep.specs.JoinSlots.{HaveGained}
use Rattle.rw_sweep.proofs.joiner.slots.grow.Given as goal

abbrev pub invariant-loop-alloc : goal.invariant-loop-alloc
invariant-loop-alloc l = record {
  gained : HaveGained [] l.fn.slots.items l.slots.items;
  more : length l.fn.slots.items ≤ length l.slots.items;
  most : length l.slots.items ≤ max (length l.fn.slots.items) (l.index + 1);
}

abbrev pub decreases-loop-alloc : goal.decreases-loop-alloc
decreases-loop-alloc l = l.index + 1 - vec_len l.slots
