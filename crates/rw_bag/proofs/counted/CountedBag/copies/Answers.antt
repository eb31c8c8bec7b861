use Rattle.std.proofs.Common.{sym, ap, ◌∙◌, subst, ◌<◌}
use Rattle.std.specs.Prelude.{unwrap_or}
use Rattle.rw_vt.specs.Order.{event_cmp, copies}
use Rattle.rw_vt.proofs.EventOrder.{events_exact}
use Rattle.rw_vt.proofs.Sorting.{IsExactOrder}
use Rattle.rw_bag.proofs.Counting.{copies-copies_of, count_small}
use Rattle.rw_bag.proofs.counted.CountedBag.copies.Goals as goal

pub returns-clause-copies : goal.returns-clause-copies
returns-clause-copies g c =
    let o : IsExactOrder (event_cmp g.M.Body.Ord.cmp) = events_exact (record { total = g.met.M.Body.Ord.total; same = g.met.M.Model.same }) in
    c.unwrap_or.ensures ∙ ap (λ r. unwrap_or r 0) (c.copied.ensures ∙ c.get.ensures.value)
    ∙ sym (copies-copies_of o c.args.event.now c.self.inside.counts.entries c.self.invariant.0)
    ∙ ap (copies (event_cmp g.M.Body.Ord.cmp) c.args.event.now) c.self.view_is

pub returns-clause-small : goal.returns-clause-small
returns-clause-small g c =
    let o : IsExactOrder (event_cmp g.M.Body.Ord.cmp) = events_exact (record { total = g.met.M.Body.Ord.total; same = g.met.M.Model.same }) in
    subst (λ n. n < 4611686018427387904) (sym (c.unwrap_or.ensures ∙ ap (λ r. unwrap_or r 0) (c.copied.ensures ∙ c.get.ensures.value)))
    (count_small o c.args.event.now c.self.inside.counts.entries c.self.invariant.1)
