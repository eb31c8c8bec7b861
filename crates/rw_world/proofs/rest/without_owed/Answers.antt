use Rattle.std.proofs.Common.{◌≡◌, [], refl, sym, ◌∙◌, subst, arith, ap}
use Rattle.rw_vt.specs.Order.{event_cmp, copies}
use Rattle.rw_vt.proofs.EventOrder.{events_exact}
use Rattle.rw_vt.proofs.Sorting.{IsExactOrder}
use Rattle.rw_world.proofs.Resting.{IsSoFar, so_far_first, so_far_kept, so_far_taken, so_far_last, none_length}
use Rattle.rw_world.proofs.rest.without_owed.Given as given
use Rattle.std.proofs.lemmas.Result.{IfOk-from_err}
use Rattle.rw_world.proofs.Undoing.{zero_test}
use Rattle.rw_world.proofs.rest.without_owed.Goals as goal

order : (g : given.Over) → IsExactOrder (event_cmp g.M.Body.Ord.cmp)
order g = events_exact (record { total = g.met.M.Body.Ord.total; same = g.met.M.Model.same })

pub loop-event-init : goal.loop-event-init
loop-event-init g c =
    let cmp = event_cmp g.M.Body.Ord.cmp in
    subst (λ l. IsSoFar cmp c.args.there.items c.args.owed.items l c.into_iter-event-iterator.result.rest.items c.in_ok-owed.owed) (sym c.new-left.ensures.items)
    (subst (λ l. IsSoFar cmp c.args.there.items c.args.owed.items [] l c.in_ok-owed.owed) (sym c.into_iter-event-iterator.ensures.into_iter_gives.0)
    (so_far_first (order g) c.args.there.items c.args.owed.items c.in_ok-owed.owed c.in_ok-owed.ensures.all))

pub loop-event-preserved-in-Continue-branch-2 : goal.loop-event-preserved-in-Continue-branch-2
loop-event-preserved-in-Continue-branch-2 g c =
    let cmp = event_cmp g.M.Body.Ord.cmp in
    let x = c.in-Some.event in
    let rest = c.next.new.self.rest.items in
    so_far_kept (order g) c.args.there.items c.args.owed.items c.loop-event.left.items rest c.loop-event.owed _ _ x
    (subst (λ l. IsSoFar cmp c.args.there.items c.args.owed.items c.loop-event.left.items l c.loop-event.owed) c.in-Some.ensures.steps.0 c.loop-event.invariant)
    (sym c.if-not-take.ensures.there) c.in_ok-push.ensures.items (c.if-not-take.ensures.kept refl)

pub loop-event-preserved : goal.loop-event-preserved
loop-event-preserved g c =
    let cmp = event_cmp g.M.Body.Ord.cmp in
    let x = c.in-Some.event in
    let rest = c.next.new.self.rest.items in
    so_far_taken (order g) c.args.there.items c.args.owed.items c.loop-event.left.items rest c.loop-event.owed _ x
    (subst (λ l. IsSoFar cmp c.args.there.items c.args.owed.items c.loop-event.left.items l c.loop-event.owed) c.in-Some.ensures.steps.0 c.loop-event.invariant)
    (sym c.if-not-take.ensures.there) c.if-not-take.ensures.rest

pub returns : goal.returns
returns g c =
    let cmp = event_cmp g.M.Body.Ord.cmp in
    let none : c.loop-event.event-iterator.rest.items ≡ [] = none_length c.loop-event.event-iterator.rest.items (sym c.loop-event.event-iterator.rest.ok.0 ∙ c.in-None.ensures.steps.0) in
    record { left = so_far_last (order g) c.args.there.items c.args.owed.items c.loop-event.left.items c.loop-event.owed c.requires.there (subst (λ l. IsSoFar cmp c.args.there.items c.args.owed.items c.loop-event.left.items l c.loop-event.owed) none c.loop-event.invariant) }

pub returns-then-is_empty : goal.returns-then-is_empty
returns-then-is_empty g c =
    let zero = zero_test c.args.owed.len (sym c.is_empty.ensures ∙ c.if-is_empty.true) in
    let none : c.args.owed.items ≡ [] = none_length c.args.owed.items (sym c.args.owed.ok.0 ∙ zero) in
    record { left = λ e. omega (arith, ap (copies (event_cmp g.M.Body.Ord.cmp) e) none) }

pub returns-in_err-owed : goal.returns-in_err-owed
returns-in_err-owed g c = record { left = IfOk-from_err c.from_residual.result _ c.from_residual.ensures.0 }

pub returns-in_err-push : goal.returns-in_err-push
returns-in_err-push g c = record { left = IfOk-from_err c.from_residual-in_err-push.result _ c.from_residual-in_err-push.ensures.0 }
