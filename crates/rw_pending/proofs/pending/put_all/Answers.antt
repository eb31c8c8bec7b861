use Rattle.std.proofs.Common.{◌++◌, [], ◌∷◌, ◌∙◌, IsPermutation, ap, append-nil, append_assoc, arith, subst, sym, take}
use Rattle.std.proofs.lemmas.List.{take_all, take_more}
use Rattle.std.proofs.lemmas.List.Sorted.{IsPermutation-append_left, IsPermutation-refl, IsPermutation-trans}
use Rattle.rw_pending.proofs.pending.put_all.Goals as goal

pub loop-event-preserved : goal.loop-event-preserved
loop-event-preserved g c =
    let es = c.args.events.now in
    let n = c.loop-event.event-index in
    let e = c.event-item.result in
    let so_far = c.args.later.now ++ take n es in
    subst (λ l. IsPermutation (c.args.later.now ++ l) c.put.new.self) (sym (take_more es n e c.loop-event-test.true ∙ ap (λ w. take n es ++ w ∷ []) (sym c.event-item.is)))
    (subst (λ l. IsPermutation l c.put.new.self) (append_assoc c.args.later.now (take n es) (e ∷ []))
    (IsPermutation-trans (so_far ++ e ∷ []) (c.loop-event.later ++ e ∷ []) c.put.new.self (IsPermutation-append_left (e ∷ []) so_far c.loop-event.later c.loop-event.invariant) c.in_ok-put.ensures.added))

pub loop-event-init : goal.loop-event-init
loop-event-init g c =
    let before = c.args.later.now in
    subst (λ l. IsPermutation l before) (sym (append-nil before)) (IsPermutation-refl before)

pub returns-clause-added : goal.returns-clause-added
returns-clause-added g c =
    subst (λ l. IsPermutation (c.args.later.now ++ l) c.loop-event.later) (take_all c.loop-event.event-index c.args.events.now (omega (arith, c.loop-event-test.false))) c.loop-event.invariant
