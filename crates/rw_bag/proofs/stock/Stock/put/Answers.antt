use Rattle.std.proofs.Common.{◌≡◌, ◌++◌, ◌∷◌, [], ap, arith}
use Rattle.std.proofs.lemmas.Result.{on_ok_weaker}
use Rattle.rw_vt.specs.Order.{event_cmp, copies, insert_in_order}
use Rattle.rw_vt.proofs.EventOrder.{events_exact}
use Rattle.rw_vt.proofs.Sorting.{IsExactOrder, copies-append, copies-insert}
use Rattle.rw_bag.proofs.Together.{puts}
use Rattle.rw_bag.proofs.stock.Stock.put.Goals as goal

pub returns-then-leads-clause-ok : goal.returns-then-leads-clause-ok
returns-then-leads-clause-ok g c =
    let o : IsExactOrder (event_cmp g.M.Body.Ord.cmp) = events_exact (record { total = g.met.M.Body.Ord.total; same = g.met.M.Model.same }) in
    let cmp = event_cmp g.M.Body.Ord.cmp in
    let e = c.args.event in
    let xs = c.self.inside.descending in
    let ys = c.self.inside.ascending in
    let zs = c.self.inside.counted in
    on_ok_weaker c.push.result (λ (put : c.push.new.self ≡ e ∷ xs). puts o e xs ys zs c.push.new.self ys zs c.args.self.now c.self.view_is (λ q. omega (arith, ap (copies cmp q) put))) c.push.ensures.ok

pub returns-then-follows-clause-ok : goal.returns-then-follows-clause-ok
returns-then-follows-clause-ok g c =
    let o : IsExactOrder (event_cmp g.M.Body.Ord.cmp) = events_exact (record { total = g.met.M.Body.Ord.total; same = g.met.M.Model.same }) in
    let cmp = event_cmp g.M.Body.Ord.cmp in
    let e = c.args.event in
    let xs = c.self.inside.descending in
    let ys = c.self.inside.ascending in
    let zs = c.self.inside.counted in
    on_ok_weaker c.push-then-follows.result (λ (put : c.push-then-follows.new.self ≡ ys ++ e ∷ []). puts o e xs ys zs xs c.push-then-follows.new.self zs c.args.self.now c.self.view_is (λ q. omega (arith, ap (copies cmp q) put, copies-append o q ys (e ∷ [])))) c.push-then-follows.ensures.ok

pub returns-clause-ok : goal.returns-clause-ok
returns-clause-ok g c =
    let o : IsExactOrder (event_cmp g.M.Body.Ord.cmp) = events_exact (record { total = g.met.M.Body.Ord.total; same = g.met.M.Model.same }) in
    let cmp = event_cmp g.M.Body.Ord.cmp in
    let e = c.args.event in
    let xs = c.self.inside.descending in
    let ys = c.self.inside.ascending in
    let zs = c.self.inside.counted in
    on_ok_weaker c.put.result (λ (put : c.put.new.self ≡ insert_in_order cmp e zs). puts o e xs ys zs xs ys c.put.new.self c.args.self.now c.self.view_is (λ q. omega (arith, ap (copies cmp q) put, copies-insert o q e zs))) c.put.ensures.ok
