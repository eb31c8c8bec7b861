use Rattle.std.proofs.Common.{◌≡◌, ◌++◌, [], ◌∷◌, length, sym, ap, ◌∙◌, arith, append_assoc, append-nil}
use Rattle.rw_vt.specs.Order.{event_cmp, without}
use Rattle.rw_vt.proofs.EventOrder.{events_exact}
use Rattle.rw_vt.proofs.Sorting.{IsExactOrder}
use Rattle.rw_bag.proofs.Edits.{without_first}
use Rattle.rw_bag.proofs.bag.Bag.move_to.Given as given
use Rattle.rw_bag.proofs.bag.Bag.move_to.Goals as goal

order : (g : given.Over) → IsExactOrder (event_cmp g.M.Body.Ord.cmp)
order g = events_exact (record { total = g.met.M.Body.Ord.total; same = g.met.M.Model.same })

pub events-smaller : goal.events-smaller
events-smaller g c =
    let first = c.in-Some.ensures.first in
    let e = c.in-Some.first.now in
    let taken : c.take-taken.new.self ≡ first.0 = c.take-taken.ensures.rest ∙ ap (without (event_cmp g.M.Body.Ord.cmp) e) first.1 ∙ without_first (order g) e first.0 in
    omega (arith, ap length taken, ap length first.1)

pub events-preserved : goal.events-preserved
events-preserved g c =
    let first = c.in-Some.ensures.first in
    let e = c.in-Some.first.now in
    let taken : c.take-taken.new.self ≡ first.0 = c.take-taken.ensures.rest ∙ ap (without (event_cmp g.M.Body.Ord.cmp) e) first.1 ∙ without_first (order g) e first.0 in
    ap (λ l. c.push.new.self.items ++ l) taken
    ∙ ap (λ l. l ++ first.0) c.in_ok-push.ensures.items
    ∙ append_assoc c.events.out.items (e ∷ []) first.0
    ∙ ap (λ l. c.events.out.items ++ l) (sym first.1)
    ∙ c.events.invariant

pub returns : goal.returns
returns g c = sym (append-nil c.events.out.items) ∙ ap (λ l. c.events.out.items ++ l) (sym c.in_default.ensures.first) ∙ c.events.invariant
