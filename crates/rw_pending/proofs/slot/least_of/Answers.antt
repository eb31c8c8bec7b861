use Rattle.std.proofs.Common.{rules, ◌≡◌, ◌<◌, ◌+◌, ◌^◌, ◌++◌, [], ◌∷◌, ◌∙◌, ap, arith, subst, sym, take}
use Rattle.std.proofs.lemmas.List.{take_more}
use Rattle.rw_pending.specs.Later.{IsLeastOr, never}
use Rattle.rw_pending.proofs.ByTime.{least_or_append, least_or_one}
use Rattle.rw_pending.proofs.slot.least_of.Goals as goal

pub loop-event-preserved : goal.loop-event-preserved
loop-event-preserved g c =
    let es = c.args.events.now in
    let n = c.loop-event.event-index in
    let e = c.event-item.result in
    let fits : e.time < 2 ^ 64 = search rules in
    let more : take (n + 1) es ≡ take n es ++ e ∷ [] = take_more es n e c.loop-event-test.true ∙ ap (λ w. take n es ++ w ∷ []) (sym c.event-item.is) in
    subst (λ l. IsLeastOr never l c.min-least.result) (sym more) (subst (IsLeastOr never (take n es ++ e ∷ [])) (sym c.min-least.ensures) (least_or_append c.loop-event.invariant (least_or_one e (omega arith))))
