use Rattle.std.proofs.Common.{◌≡◌, ◌++◌, ◌∷◌, [], length, length-append, sym, ap, subst, arith}
use Rattle.rw_vt.specs.Order.{event_cmp, AtMost, Each, IsAscending}
use Rattle.rw_vt.proofs.EventOrder.{events_exact}
use Rattle.rw_vt.proofs.Sorting.{IsExactOrder}
use Rattle.rw_bag.proofs.Rising.{pushed}
use Rattle.rw_bag.proofs.ascending.Ascending.push.Goals as goal

pub invariant_of-self-2 : goal.invariant_of-self-2
invariant_of-self-2 g c =
    let o : IsExactOrder (event_cmp g.M.Body.Ord.cmp) = events_exact (record { total = g.met.M.Body.Ord.total; same = g.met.M.Model.same }) in
    let cmp = event_cmp g.M.Body.Ord.cmp in
    let e = c.args.event in
    let xs = c.self.inside.events.items in
    let long : length c.push_back.new.self.items ≡ length (xs ++ e ∷ []) = ap length c.in_ok-push_back.ensures.items in
    let seen : length xs ≡ length c.args.self.now = ap length c.self.view_is in (
      subst (IsAscending cmp) (sym c.in_ok-push_back.ensures.items) (pushed o e xs c.self.invariant.0 (subst (Each cmp (λ y. AtMost cmp y e)) (sym c.self.view_is) c.requires.order)),
      omega (arith, long, seen, length-append xs (e ∷ []), c.requires.room),
    )
