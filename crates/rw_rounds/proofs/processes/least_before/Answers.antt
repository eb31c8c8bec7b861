use Rattle.rw_vt.specs.Order.{event_cmp}
use Rattle.rw_vt.proofs.EventOrder.{events_exact}
use Rattle.rw_vt.proofs.Sorting.{IsExactOrder}
use Rattle.rw_rounds.proofs.Looking.{looked_none, looked_late, looked_next}
use Rattle.rw_rounds.proofs.processes.least_before.Goals as goal

pub returns-in_err-first-clause-none : goal.returns-in_err-first-clause-none
returns-in_err-first-clause-none g c =
    let o : IsExactOrder (event_cmp g.M.Body.Ord.cmp) = events_exact (record { total = g.met.M.Body.Ord.total; same = g.met.M.Model.same }) in
    rw c.from_residual.ensures (λ m. looked_none g.M.Model g.M.Body.Ord.cmp m o c.args.processes.now c.args.next.now c.requires.all c.requires.tells c.in_err-first.ensures.none c.args.bound)

pub returns-then-bound-first-clause-none : goal.returns-then-bound-first-clause-none
returns-then-bound-first-clause-none g c =
    let o : IsExactOrder (event_cmp g.M.Body.Ord.cmp) = events_exact (record { total = g.met.M.Body.Ord.total; same = g.met.M.Model.same }) in
    let first = c.in_ok-first.first.now in
    λ m. looked_late g.M.Model g.M.Body.Ord.cmp m o c.args.processes.now c.args.next.now c.requires.all c.requires.tells first.place first.event c.in_ok-first.ensures.there c.in_ok-first.ensures.least c.args.bound c.if-bound-first.true

pub returns-clause-some : goal.returns-clause-some
returns-clause-some g c =
    let o : IsExactOrder (event_cmp g.M.Body.Ord.cmp) = events_exact (record { total = g.met.M.Body.Ord.total; same = g.met.M.Model.same }) in
    let first = c.in_ok-first.first.now in
    λ m. looked_next g.M.Model g.M.Body.Ord.cmp m o c.args.processes.now c.args.next.now c.requires.all c.requires.tells first.place first.event c.in_ok-first.ensures.there c.in_ok-first.ensures.least c.args.bound c.if-bound-first.false
