use Rattle.std.proofs.Common.{take, drop, ap, ◌∙◌, subst, sym}
use Rattle.rw_vt.specs.Order.{event_cmp, has, IsAscending}
use Rattle.rw_vt.proofs.Bags.{IsAscending-back}
use Rattle.rw_vt.proofs.EventOrder.{events_exact}
use Rattle.rw_vt.proofs.Sorting.{IsExactOrder}
use Rattle.rw_lp.proofs.Searching.{search_is}
use Rattle.rw_lp.proofs.history.Past.holds.Goals as goal

pub returns : goal.returns
returns g c =
    let o : IsExactOrder (event_cmp g.M.Body.Ord.cmp) = events_exact (record { total = g.met.M.Body.Ord.total; same = g.met.M.Model.same }) in
    let p = c.args.self.now in
    let up = IsAscending-back o (take p.cut p.done.items) (drop p.cut p.done.items) c.requires.kept.linked.order in
    c.is_ok.ensures.value
    ∙ search_is o c.args.event c.processed.result.now c.binary_search.result (subst (IsAscending (event_cmp g.M.Body.Ord.cmp)) (sym c.processed.ensures) up) c.binary_search.ensures.bound c.binary_search.ensures.position
    ∙ ap (has (event_cmp g.M.Body.Ord.cmp) c.args.event) c.processed.ensures
