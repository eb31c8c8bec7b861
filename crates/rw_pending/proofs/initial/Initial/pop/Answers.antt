use Rattle.std.proofs.Common.{◌≡◌, ◌++◌, ◌∙◌, [], All, IfNone, IfSome, ap, subst, sym}
use Rattle.std.specs.Option.{option_to_list}
use Rattle.rw_vt.specs.Order.{AtMost, event_cmp}
use Rattle.rw_vt.proofs.EventOrder.{events_total}
use Rattle.rw_pending.proofs.First.{first_least, none_first, stands_before}
use Rattle.rw_pending.proofs.initial.Initial.pop.Goals as goal

pub invariant_of-self : goal.invariant_of-self
invariant_of-self g c =
    let next = c.next-self-inside in
    stands_before g.B.Ord.cmp next.result (g.S.Source.left c.self.inside.others) (g.S.Source.left next.new.self) next.ensures.given next.ensures.least next.ensures.none

pub returns-clause-taken : goal.returns-clause-taken
returns-clause-taken g c = sym c.self.view_is ∙ ap (λ l. option_to_list c.self.inside.first ++ l) c.next-self-inside.ensures.given

pub returns-clause-none : goal.returns-clause-none
returns-clause-none g c = subst (λ l. IfNone c.self.inside.first (l ≡ [])) c.self.view_is (none_first g.B.Ord.cmp c.self.inside.first (g.S.Source.left c.self.inside.others) c.self.invariant)

pub returns-clause-least : goal.returns-clause-least
returns-clause-least g c =
    subst (λ l. IfSome c.self.inside.first (λ e. All (AtMost (event_cmp g.B.Ord.cmp) e) l)) c.self.view_is
    (first_least g.B.Ord.cmp (events_total g.met.B.Ord.total) c.self.inside.first (g.S.Source.left c.self.inside.others) c.self.invariant)
