use Rattle.rw_vt.proofs.EventOrder.{events_total, events_exact}
use Rattle.rw_vt.proofs.model.in_order.Goals as goal

pub returns-clause-total : goal.returns-clause-total
returns-clause-total g c = events_total g.met.M.Body.Ord.total

pub returns-clause-exact : goal.returns-clause-exact
returns-clause-exact g c = (events_exact (record { total = g.met.M.Body.Ord.total; same = g.met.M.Model.same })).same
