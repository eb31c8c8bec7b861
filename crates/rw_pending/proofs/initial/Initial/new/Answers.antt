use Rattle.rw_pending.proofs.First.{stands_before}
use Rattle.rw_pending.proofs.initial.Initial.new.Goals as goal

pub invariant_of-result : goal.invariant_of-result
invariant_of-result g c = stands_before g.B.Ord.cmp c.next.result (g.S.Source.left c.args.source) (g.S.Source.left c.next.new.self) c.next.ensures.given c.next.ensures.least c.next.ensures.none
