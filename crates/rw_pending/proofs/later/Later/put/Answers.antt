use Rattle.std.proofs.Common.{arith, subst, sym}
use Rattle.rw_pending.specs.Later.{IsLeastOr, never}
use Rattle.rw_pending.proofs.ByTime.{least_or_append, least_or_one, least_or_permuted}
use Rattle.rw_pending.proofs.later.Later.put.Goals as goal

pub invariant_of-self-2 : goal.invariant_of-self-2
invariant_of-self-2 g c =
    let e = c.args.event.now in
    subst (IsLeastOr never c.put.new.self) (sym c.min-self-inside.ensures)
    (least_or_permuted c.in_ok-put.ensures.added (least_or_append c.self.invariant (least_or_one e (omega arith))))
