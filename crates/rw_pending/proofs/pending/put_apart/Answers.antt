use Rattle.std.proofs.Common.{◌<◌, ◌++◌, [], ◌∷◌, ◌∙◌, IsPermutation, ap, arith, subst, sym, take}
use Rattle.std.proofs.lemmas.List.{take_all, take_more}
use Rattle.rw_pending.proofs.Waiting.{apart_at_first, put_at_start, put_later}
use Rattle.rw_pending.proofs.pending.put_apart.Goals as goal
use Rattle.rw_pending.proofs.pending.put_apart.Goals.{then-event-eq0+in_ok-push, else-event-eq0+in_ok-put}

pub loop-event-preserved : goal.loop-event-preserved
loop-event-preserved g c =
    let es = c.args.events.now in
    let n = c.loop-event.event-index in
    let e = c.event-item.result in
    let before = c.loop-event in
    let after = c.if-event-eq0 in
    let more = take_more es n e c.loop-event-test.true ∙ ap (λ w. take n es ++ w ∷ []) (sym c.event-item.is) in
    elim after.branch [
      | then-event-eq0+in_ok-push w ↦ put_at_start (take n es) _ before.start.items after.start.items before.later after.later e more w.if-event-eq0.true (ap (λ v. v.items) w.start-is ∙ w.in_ok-push.ensures.items) w.later-is before.invariant
      | else-event-eq0+in_ok-put w ↦ let past : 0 < e.time = omega (arith, w.if-event-eq0.false) in
          put_later (take n es) _ before.start.items after.start.items before.later after.later e more past (ap (λ v. v.items) w.start-is) (subst (IsPermutation (before.later ++ e ∷ [])) (sym w.later-is) w.in_ok-put.ensures.added) before.invariant
    ]

pub loop-event-init : goal.loop-event-init
loop-event-init g c = apart_at_first c.requires.none.0 c.requires.none.1

pub returns-clause-put : goal.returns-clause-put
returns-clause-put g c =
    subst (λ l. IsPermutation l (c.loop-event.start.items ++ c.loop-event.later)) (take_all c.loop-event.event-index c.args.events.now c.loop-event-test.false) c.loop-event.invariant.0

pub returns-clause-start : goal.returns-clause-start
returns-clause-start g c = c.loop-event.invariant.1

pub returns-clause-later : goal.returns-clause-later
returns-clause-later g c = c.loop-event.invariant.2
