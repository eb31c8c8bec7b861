use Rattle.std.proofs.Common.{◌<◌, ◌++◌, All, IsPermutation, subst, sym}
use Rattle.rw_pending.proofs.ByTime.{All-front}
use Rattle.rw_pending.proofs.Moving.{around_refilled, refilled}
use Rattle.rw_pending.proofs.pending.Pending.refill.Goals as goal

pub invariant_of-self : goal.invariant_of-self
invariant_of-self g c =
    let at = c.self.inside in
    c.put_rest.ensures.around at.time at.now (All-front (λ e. at.time < e.time) at.initial (at.now ++ at.later) (subst (λ w. All (λ e. w.time < e.time) w.events) (sym c.self.view_is) c.requires.later)) c.self.invariant

pub invariant_of-self-2 : goal.invariant_of-self-2
invariant_of-self-2 g c =
    let at = c.self.inside in
    around_refilled at.time at.initial at.now at.later c.put_rest.new.later c.new.result c.self.invariant (subst (λ w. All (λ e. w.time < e.time) w.events) (sym c.self.view_is) c.requires.later) c.in_ok-put_rest.ensures.added

pub returns-clause-added : goal.returns-clause-added
returns-clause-added g c =
    let at = c.self.inside in
    let left = at.now ++ c.put_rest.new.later in
    subst (λ w. IsPermutation (w.events ++ g.S.Source.left c.args.source) (c.new.result ++ left)) c.self.view_is
    (subst (λ l. IsPermutation ((at.initial ++ (at.now ++ at.later)) ++ g.S.Source.left c.args.source) (l ++ left)) (sym c.new.ensures)
    (refilled at.initial at.now at.later c.put_rest.new.later (g.S.Source.left c.args.source) c.in_ok-put_rest.ensures.added))
