use Rattle.std.proofs.Common.{◌≡◌, ◌++◌, [], ap, ◌∙◌, append-nil}
use Rattle.rw_vt.specs.Order.{event_cmp, in_order}
use Rattle.rw_vt.proofs.EventOrder.{events_exact}
use Rattle.rw_vt.proofs.Sorting.{IsExactOrder, IsAscending-in_order}
use Rattle.rw_bag.proofs.Together.{in_order_done}
use Rattle.rw_bag.proofs.stock.Stock.from_events.Goals as goal

pub returns : goal.returns
returns g c =
    let o : IsExactOrder (event_cmp g.M.Body.Ord.cmp) = events_exact (record { total = g.met.M.Body.Ord.total; same = g.met.M.Model.same }) in
    let cmp = event_cmp g.M.Body.Ord.cmp in
    let items = c.args.events.items in
    let xs = c.in_ok-from_events.field-0 in
    let parts : xs ++ c.new.result ++ c.new-2.result ≡ in_order cmp items =
    ap (λ l. xs ++ l ++ c.new-2.result) c.new.ensures ∙ ap (λ l. xs ++ [] ++ l) c.new-2.ensures ∙ append-nil (xs ++ []) ∙ append-nil xs ∙ c.in_ok-from_events.ensures.all in
    record { all = ap (in_order cmp) parts ∙ in_order_done o (in_order cmp items) (IsAscending-in_order o items) }
