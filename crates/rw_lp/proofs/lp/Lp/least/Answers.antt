use Rattle.std.proofs.Common.{◌≡◌, ◌≤◌, sym, ap, ◌∙◌, subst, min, arith}
use Rattle.rw_vt.specs.Order.{event_cmp, Each}
use Rattle.rw_vt.proofs.EventOrder.{events_exact}
use Rattle.rw_vt.proofs.Sorting.{IsExactOrder}
use Rattle.rw_vt.specs.System.{rules}
use Rattle.rw_lp.specs.HeldMessages.{held_messages}
use Rattle.rw_lp.specs.Calls.{LogicalProcess}
use Rattle.rw_bag.specs.Bags.{least_time}
use Rattle.rw_bag.proofs.Cited.{least_each}
use Rattle.rw_lp.proofs.HeldRuns.{held_least}
use Rattle.rw_lp.proofs.lp.Lp.least.Goals as goal

pub returns-clause-is : goal.returns-clause-is
returns-clause-is g c =
    subst (λ (w : LogicalProcess g.row.M.Denot g.row.M-State.Denot g.row.M-Body.Denot). c.min.result ≡ least_time (least_time (least_time 1099511627776 (held_messages w.process.held)) w.process.debts) w.process.pending) c.self.view_is
    (c.min.ensures ∙ ap (λ n. min n c.least_time-2.result) c.least_time.ensures ∙ ap (min (least_time 1099511627776 c.self.inside.pending)) c.least_time-2.ensures
    ∙ sym (held_least (rules g.M.Model g.M.Body.Ord.cmp c.self.inside.history.value.model.value) (events_exact (record { total = g.met.M.Body.Ord.total; same = g.met.M.Model.same })) c.self.inside.pending 1099511627776 c.self.inside.debts c.self.inside.held.value c.self.invariant.1.held))

pub returns-clause-pending : goal.returns-clause-pending
returns-clause-pending g c =
    let o : IsExactOrder (event_cmp g.M.Body.Ord.cmp) = events_exact (record { total = g.met.M.Body.Ord.total; same = g.met.M.Model.same }) in
    subst (λ (w : LogicalProcess g.row.M.Denot g.row.M-State.Denot g.row.M-Body.Denot). Each (event_cmp g.M.Body.Ord.cmp) (λ e. c.min.result ≤ e.time) w.process.pending) c.self.view_is
    (λ e k. let late = least_each o 1099511627776 c.self.inside.pending e k in omega (arith, c.min.ensures, c.least_time.ensures))

pub returns-clause-debts : goal.returns-clause-debts
returns-clause-debts g c =
    let o : IsExactOrder (event_cmp g.M.Body.Ord.cmp) = events_exact (record { total = g.met.M.Body.Ord.total; same = g.met.M.Model.same }) in
    subst (λ (w : LogicalProcess g.row.M.Denot g.row.M-State.Denot g.row.M-Body.Denot). Each (event_cmp g.M.Body.Ord.cmp) (λ e. c.min.result ≤ e.time) w.process.debts) c.self.view_is
    (λ e k. let late = least_each o 1099511627776 c.self.inside.debts e k in omega (arith, c.min.ensures, c.least_time-2.ensures))
