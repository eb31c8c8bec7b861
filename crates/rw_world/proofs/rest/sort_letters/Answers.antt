use Rattle.std.proofs.Common.{◌<◌, length, ap, ◌∙◌, arith, ◌+◌}
use Rattle.rw_vt.specs.Order.{event_cmp, copies}
use Rattle.rw_world.proofs.Resting.{message_more, anti_more, pushed}
use Rattle.std.proofs.lemmas.List.{take_all}
use Rattle.rw_vt.specs.Letters.{messages, antis}
use Rattle.rw_world.proofs.rest.sort_letters.Goals as goal
use Rattle.rw_world.proofs.rest.sort_letters.Goals.{then-letter+in_ok-push, else-letter+in_ok-push-2}

pub loop-letter-preserved : goal.loop-letter-preserved
loop-letter-preserved g c =
    let cmp = event_cmp g.B.Ord.cmp in
    let ls = c.args.letters.now in
    let i = c.loop-letter.letter-index in
    let l = c.letter-item.result in
    let within : i < length ls = omega (arith, c.loop-letter-test.true) in
    record {
      there = λ e. elim c.if-letter.branch [
        | then-letter+in_ok-push w ↦ let m = anti_more cmp e ls i l within c.letter-item.is w.if-letter.true in omega (arith, ap (λ v. copies cmp e v.items) w.there-is, c.loop-letter.invariant.there e, m.0)
        | else-letter+in_ok-push-2 w ↦ let m = message_more cmp e ls i l within c.letter-item.is w.if-letter.false in omega (arith, ap (λ v. copies cmp e v.items) w.there-is, ap (copies cmp e) w.in_ok-push-2.ensures.items, pushed cmp e l.event c.loop-letter.there.items, c.loop-letter.invariant.there e, m.0)
      ];
      owed = λ e. elim c.if-letter.branch [
        | then-letter+in_ok-push w ↦ let m = anti_more cmp e ls i l within c.letter-item.is w.if-letter.true in omega (arith, ap (λ v. copies cmp e v.items) w.owed-is, ap (copies cmp e) w.in_ok-push.ensures.items, pushed cmp e l.event c.loop-letter.owed.items, c.loop-letter.invariant.owed e, m.1)
        | else-letter+in_ok-push-2 w ↦ let m = message_more cmp e ls i l within c.letter-item.is w.if-letter.false in omega (arith, ap (λ v. copies cmp e v.items) w.owed-is, c.loop-letter.invariant.owed e, m.1)
      ];
    }

pub loop-letter-init : goal.loop-letter-init
loop-letter-init g c = record { there = λ e. omega arith; owed = λ e. omega arith }

pub returns : goal.returns
returns g c =
    let cmp = event_cmp g.B.Ord.cmp in
    let all = take_all c.loop-letter.letter-index c.args.letters.now (omega arith) in
    record {
      there = λ e. c.loop-letter.invariant.there e ∙ ap (λ ls. copies cmp e c.args.there.now.items + messages cmp e ls) all;
      owed = λ e. c.loop-letter.invariant.owed e ∙ ap (λ ls. copies cmp e c.args.owed.now.items + antis cmp e ls) all;
    }
