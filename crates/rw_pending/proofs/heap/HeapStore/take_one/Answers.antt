use Rattle.std.proofs.Common.{subst}
use Rattle.rw_pending.specs.Later.{IsLeastTime}
use Rattle.rw_pending.proofs.ByTime.{taken_at_least}
use Rattle.rw_pending.proofs.heap.HeapStore.take_one.Goals as goal

pub returns-then-is_time-clause-of_time : goal.returns-then-is_time-clause-of_time
returns-then-is_time-clause-of_time g c =
    let least = subst (IsLeastTime c.args.self.now) (c.is_time.ensures.0 c.if-is_time.true) c.least_time.ensures in
    taken_at_least c.args.time c.args.self.now c.pop.new.self c.pop.result c.requires least c.pop.ensures.taken c.pop.ensures.least
