use Rattle.std.proofs.Common.{◌≡◌, ◌+◌, [], ◌∷◌, ◌++◌, take, sym, ap, ◌∙◌, arith, append-nil, append_assoc}
use Rattle.std.proofs.lemmas.List.{take_all, take_more, map-append}
use Rattle.rw_vt.specs.declared.event.Event.{Event}
use Rattle.rw_vt.specs.declared.event.Letter.{Letter}
use Rattle.rw_vt.specs.Letters.{letters_of}
use Rattle.rw_lp.proofs.letters.give.Goals as goal

pub loop-event-init : goal.loop-event-init
loop-event-init g c = sym (append-nil c.args.out.now.items)

pub loop-event-preserved : goal.loop-event-preserved
loop-event-preserved g c =
    let events = c.args.events.now in
    let i = c.loop-event.event-index in
    let e = c.event-item.result in
    let before = letters_of c.args.anti (take i events) in
    let more : take (i + 1) events ≡ take i events ++ e ∷ [] = take_more events i e (omega (arith, c.loop-event-test.true)) ∙ ap (λ d. take i events ++ d ∷ []) (sym c.event-item.is) in
    let given : letters_of c.args.anti (take (i + 1) events) ≡ before ++ record { event = e; anti = c.args.anti } ∷ [] =
    ap (letters_of c.args.anti) more ∙ map-append (λ (d : Event g.row.B.Denot). let l : Letter g.row.B.Denot = record { event = d; anti = c.args.anti } in l) (take i events) (e ∷ []) in
    c.in_ok-push.ensures.items ∙ ap (λ l. l ++ record { event = e; anti = c.args.anti } ∷ []) c.loop-event.invariant
    ∙ append_assoc c.args.out.now.items before (record { event = e; anti = c.args.anti } ∷ [])
    ∙ ap (λ l. c.args.out.now.items ++ l) (sym given)

pub returns : goal.returns
returns g c = record { given = c.loop-event.invariant ∙ ap (λ l. c.args.out.now.items ++ letters_of c.args.anti l) (take_all c.loop-event.event-index c.args.events.now c.loop-event-test.false) }
