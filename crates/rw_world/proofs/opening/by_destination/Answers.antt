use Rattle.std.proofs.Common.{◌≡◌, ◌<◌, [], length, map, get_or, sym, ap, ◌∙◌, subst, arith}
use Rattle.std.proofs.lemmas.List.{length-set, length-map, take_all, length-replicate, get_or-replicate}
use Rattle.rw_world.proofs.Inboxes.{pushed_at, sorted_more}
use Rattle.std.specs.Prelude.{filter, ◌==◌}
use Rattle.rw_world.proofs.opening.by_destination.Goals as goal

pub index_mut-requires : goal.index_mut-requires
index_mut-requires g c =
    let e = c.event-item.result in
    let inside : e.to < c.args.count = subst (λ a. a.to < c.args.count) (sym c.event-item.is) (c.requires.inside c.loop-event.event-index e c.loop-event-test.true) in
    omega (arith, c.loop-event.invariant.long)

pub loop-event-preserved : goal.loop-event-preserved
loop-event-preserved g c =
    let lists = c.loop-event.lists.items in
    let boxes = map (λ j. j.items) lists in
    let e = c.event-item.result in
    let es = c.args.events.now in
    let k = c.loop-event.event-index in
    let known = c.loop-event.invariant in
    let inside : e.to < c.args.count = subst (λ a. a.to < c.args.count) (sym c.event-item.is) (c.requires.inside k e c.loop-event-test.true) in
    let within : e.to < length lists = omega (arith, known.long) in
    let long : length boxes ≡ length lists = length-map lists (λ j. j.items) in
    let pushed = pushed_at (λ j. j.items) lists e.to c.index_mut.result.now c.push.new.self e within c.index_mut.ensures.value c.in_ok-push.ensures.items in
    record {
      long = length-set lists e.to c.push.new.self ∙ known.long;
      sorted_out = λ q at. ap (λ l. get_or l q []) pushed ∙ sorted_more boxes c.args.count es k e (long ∙ known.long) inside c.loop-event-test.true c.event-item.is known.sorted_out q at;
    }

pub returns-clause-len : goal.returns-clause-len
returns-clause-len g c = c.loop-event.invariant.long

pub returns-clause-each : goal.returns-clause-each
returns-clause-each g c = λ q at. c.loop-event.invariant.sorted_out q at ∙ ap (filter (λ e. e.to == q)) (take_all c.loop-event.event-index c.args.events.now (omega arith))

pub loop-event-init : goal.loop-event-init
loop-event-init g c =
    let boxes = c.in_ok-lists.ensures in
    record {
      long = sym (length-map c.in_ok-lists.lists.items (λ l. l.items)) ∙ ap length boxes ∙ length-replicate c.args.count [];
      sorted_out = λ q at. ap (λ l. get_or l q []) boxes ∙ get_or-replicate c.args.count q [] [] at;
    }
