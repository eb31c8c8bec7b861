use Rattle.std.proofs.Common.{sym, subst, arith}
use Rattle.rw_vt.specs.System.{IsReady}
use Rattle.rw_vt.proofs.Laws.{laws_of}
use Rattle.rw_engine.proofs.Onward.{goes_by_rest, late_from}
use Rattle.rw_engine.proofs.run.Run.in_windows.Goals as goal

pub returns-clause-onward : goal.returns-clause-onward
returns-clause-onward g c =
    let model = g.M.Model in
    let order = g.M.Body.Ord.cmp in
    let laws = laws_of g.met.M.Model g.met.M.Body.Ord.total in
    let out = c.in_ok-stage.field-0.stage in
    let left = c.in_ok-stage.ensures.left in
    let is = c.in_ok-stage.ensures.model in
    goes_by_rest model order laws c.in_ok-events.events.items c.take_ready.new.pending.events c.requires.ready c.in_ok-events.ensures.parts
    (late_from c.take_ready.new.pending.events c.least_time.result 1099511627776 c.unwrap_or-until.result c.least_time.ensures c.unwrap_or-until.ensures)
    (omega (arith, c.min-end.ensures))
    left.rest is (subst (λ m. IsReady model m out.states.items out.events.items) (sym is) left.ready) c.in_ok-put_back.ensures.added
