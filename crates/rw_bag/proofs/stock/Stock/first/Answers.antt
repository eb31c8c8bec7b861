use Rattle.std.proofs.Common.{◌++◌, sym, subst}
use Rattle.std.specs.Option.{option_copied}
use Rattle.rw_vt.specs.Order.{event_cmp}
use Rattle.rw_vt.proofs.EventOrder.{events_exact}
use Rattle.rw_vt.proofs.Sorting.{IsExactOrder}
use Rattle.rw_bag.proofs.Together.{seen_ascends, first_is_least, lesser_is_least, IsLeastIf, next_is}
use Rattle.rw_bag.proofs.stock.Stock.first.Goals as goal

pub returns-clause-next : goal.returns-clause-next
returns-clause-next g c =
    let o : IsExactOrder (event_cmp g.M.Body.Ord.cmp) = events_exact (record { total = g.met.M.Body.Ord.total; same = g.met.M.Model.same }) in
    let xs = c.self.inside.descending in
    let ys = c.self.inside.ascending in
    let zs = c.self.inside.counted in
    let two : IsLeastIf o (xs ++ ys) (option_copied c.lesser-ordered.result) = subst (IsLeastIf o (xs ++ ys)) (sym c.lesser-ordered.ensures)
    (lesser_is_least o (option_copied c.first.result) (option_copied c.first-2.result) xs ys (first_is_least o c.first.result xs c.first.ensures.first c.first.ensures.order) (first_is_least o c.first-2.result ys c.first-2.ensures.first c.first-2.ensures.order)) in
    let three : IsLeastIf o (xs ++ ys ++ zs) (option_copied c.lesser.result) = subst (IsLeastIf o (xs ++ ys ++ zs)) (sym c.lesser.ensures)
    (lesser_is_least o (option_copied c.lesser-ordered.result) (option_copied c.first-3.result) (xs ++ ys) zs two (first_is_least o c.first-3.result zs c.first-3.ensures.first c.first-3.ensures.order)) in
    next_is o c.copied.result (xs ++ ys ++ zs) c.args.self.now c.self.view_is (subst (IsLeastIf o (xs ++ ys ++ zs)) (sym c.copied.ensures) three)

pub returns-clause-order : goal.returns-clause-order
returns-clause-order g c =
    let o : IsExactOrder (event_cmp g.M.Body.Ord.cmp) = events_exact (record { total = g.met.M.Body.Ord.total; same = g.met.M.Model.same }) in
    let within = c.self.inside in
    seen_ascends o (within.descending ++ within.ascending ++ within.counted) c.args.self.now c.self.view_is
