use Rattle.std.proofs.Common.{subst, sym}
use Rattle.std.specs.List.Sorted.{IsSorted}
use Rattle.rw_vt.specs.Order.{event_cmp}
use Rattle.rw_serial.proofs.sorted.Sorted.new.Goals as goal

pub invariant_of-result : goal.invariant_of-result
invariant_of-result g c = subst (IsSorted (event_cmp g.B.Ord.cmp)) (sym c.from.ensures.0) c.in_ok-sort.ensures.sorted
