use Rattle.std.proofs.Common.{arith}
use Rattle.rw_vt.specs.Order.{event_cmp}
use Rattle.rw_vt.proofs.EventOrder.{events_exact}
use Rattle.rw_vt.proofs.Sorting.{IsExactOrder}
use Rattle.rw_bag.proofs.Together.{seen_three}
use Rattle.rw_bag.proofs.stock.Stock.copies.Goals as goal

pub returns : goal.returns
returns g c =
    let o : IsExactOrder (event_cmp g.M.Body.Ord.cmp) = events_exact (record { total = g.met.M.Body.Ord.total; same = g.met.M.Model.same }) in
    let within = c.self.inside in
    omega (arith, c.copies.ensures.copies, c.copies-2.ensures.copies, c.copies-3.ensures.copies, seen_three o c.args.event.now within.descending within.ascending within.counted c.args.self.now c.self.view_is)
