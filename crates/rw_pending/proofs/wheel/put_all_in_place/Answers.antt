use Rattle.std.proofs.Common.{◌++◌, [], ◌∷◌, ◌∙◌, IsPermutation, ap, append_assoc, subst, sym, take}
use Rattle.std.proofs.lemmas.List.{take_more}
use Rattle.std.proofs.lemmas.List.Sorted.{IsPermutation-append_left, IsPermutation-trans}
use Rattle.rw_pending.specs.Wheel.{all_of}
use Rattle.rw_pending.proofs.wheel.put_all_in_place.Goals as goal

pub loop-event-preserved : goal.loop-event-preserved
loop-event-preserved g c =
    let es = c.args.events.now in
    let n = c.loop-event.event-index in
    let e = c.event-item.result in
    let before = all_of c.args.slots.now ++ c.args.others.now in
    let mid = all_of c.loop-event.slots ++ c.loop-event.others in
    let after = all_of c.put_in_place.new.slots ++ c.put_in_place.new.others in
    let so_far = before ++ take n es in (
      λ h. c.put_in_place.ensures.placed (c.loop-event.invariant.0 h),
      subst (λ l. IsPermutation (before ++ l) after) (sym (take_more es n e c.loop-event-test.true ∙ ap (λ w. take n es ++ w ∷ []) (sym c.event-item.is)))
          (subst (λ l. IsPermutation l after) (append_assoc before (take n es) (e ∷ []))
          (IsPermutation-trans (so_far ++ e ∷ []) (mid ++ e ∷ []) after (IsPermutation-append_left (e ∷ []) so_far mid c.loop-event.invariant.1) c.in_ok-put_in_place.ensures.added)),
    )
