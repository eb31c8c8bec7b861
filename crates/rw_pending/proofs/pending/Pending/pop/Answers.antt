use Rattle.std.proofs.Common.{[], ◌∷◌, ◌++◌, ◌≡◌, All, IfNone, IfSome, IsPermutation, subst, sym}
use Rattle.rw_vt.specs.Order.{AtMost, event_cmp}
use Rattle.rw_pending.specs.Pending.{AreAround}
use Rattle.rw_pending.proofs.Waiting.{reached_is}
use Rattle.rw_pending.proofs.pending.Pending.pop.Goals as goal

pub returns : goal.returns
returns g c =
    let next = c.in_ok-take_least.ensures.next in
    let given = c.take_least.new.next in
    let left = c.take_least.new.initial ++ (c.take_least.new.now ++ c.take_least.new.later) in
    record {
      none = subst (λ w. IfNone given (w.events ≡ [])) c.self.view_is next.none;
      none_left = next.none_left;
      least = subst (λ w. IfSome given (λ e. All (AtMost (event_cmp g.B.Ord.cmp) e) w.events)) c.self.view_is next.least;
      taken = subst (λ w. IfSome given (λ e. IsPermutation w.events (e ∷ left))) c.self.view_is next.taken;
      reached = reached_is given c.self.inside.time c.time_or-self-inside.result c.time_or-self-inside.ensures;
    }

pub take_least-requires : goal.take_least-requires
take_least-requires g c = c.self.invariant

pub invariant_of-self-2 : goal.invariant_of-self-2
invariant_of-self-2 g c =
    let left = c.take_least.new in
    subst (λ t. AreAround t left.initial left.now left.later) (sym c.time_or-self-inside.ensures) c.in_ok-take_least.ensures.next.around
