use Rattle.std.proofs.Common.{subst, sym}
use Rattle.rw_pending.specs.Pending.{IsNextEvent, IsReached}
use Rattle.rw_pending.proofs.Next.{next_reached}
use Rattle.rw_pending.proofs.pending.take_least.Goals as goal

pub returns-clause-next : goal.returns-clause-next
returns-clause-next g c =
    let went = c.in_ok-reach.ensures.reached c.if-branch.false in
    let at = c.reach.new in
    let next = c.take_first in
    let reached = subst (λ xs. IsReached xs c.args.now.now c.args.later.now at.now at.later) (sym went.0) went.1 in
    subst (λ xs. IsNextEvent g.B.Ord.cmp c.args.time xs c.args.now.now c.args.later.now next.new.next next.new.initial next.new.now at.later) went.0
    (next_reached g.B.Ord.cmp c.args.time next.new.next reached next.ensures.taken next.ensures.least next.ensures.none)
