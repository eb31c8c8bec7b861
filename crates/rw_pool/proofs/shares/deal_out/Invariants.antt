use Rattle.std.proofs.Common.{◌≡◌, ◌++◌, length, map}
use Rattle.std.specs.Prelude.{◌%◌}
use Rattle.rw_pool.proofs.Dealing.{AreDealt}
use Rattle.rw_pool.proofs.shares.deal_out.Given as goal

abbrev pub invariant-loop-item : goal.invariant-loop-item
invariant-loop-item g l = record {
  long : length l.shares.items ≡ l.workers;
  next : l.next ≡ length l.yielded % l.workers;
  walked : l.yielded ++ l.item-iterator.rest.items ≡ l.fn.list.items;
  dealt : AreDealt l.workers (map (λ h. h.items) l.shares.items) l.yielded;
}
