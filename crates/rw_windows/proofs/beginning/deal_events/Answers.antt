use Rattle.std.proofs.Common.{◌≡◌, ◌<◌, [], length, map, get_or, sym, ap, ◌∙◌, arith}
use Rattle.std.specs.Prelude.{◌%◌, ◌==◌, filter}
use Rattle.std.proofs.lemmas.List.{take_all, length-set, length-map, length-replicate, get_or-replicate}
use Rattle.rw_pool.proofs.Lists.{pushed_at}
use Rattle.rw_windows.proofs.Lists.{sorted_more}
use Rattle.rw_windows.proofs.beginning.deal_events.Goals as goal

pub loop-event-preserved : goal.loop-event-preserved
loop-event-preserved g c =
    let inboxes = c.loop-event.inboxes.items in
    let boxes = map (λ b. b.items) inboxes in
    let x = c.event-item.result in
    let n = c.args.workers in
    let known = c.loop-event.invariant in
    let some : 0 < n = omega (arith, c.requires.workers) in
    let small : x.to % n < n = omega arith in
    let within : x.to % n < length inboxes = omega (arith, known.long) in
    let long : length boxes ≡ n = length-map inboxes (λ b. b.items) ∙ known.long in
    let pushed = pushed_at (λ b. b.items) inboxes (x.to % n) c.index_mut.result.now c.push.new.self x within c.index_mut.ensures.value c.in_ok-push.ensures.items in
    record {
      long = length-set inboxes (x.to % n) c.push.new.self ∙ known.long;
      sorted_out = λ q at. ap (λ l. get_or l q []) pushed ∙ sorted_more (λ a. a.to % n) boxes n c.args.events.now c.loop-event.event-index x long small c.loop-event-test.true c.event-item.is known.sorted_out q at;
    }

pub loop-event-init : goal.loop-event-init
loop-event-init g c =
    let inboxes = c.in_ok-inboxes.inboxes.items in
    let n = c.args.workers in
    record {
      long = sym (length-map inboxes (λ b. b.items)) ∙ ap length c.in_ok-inboxes.ensures ∙ length-replicate n [];
      sorted_out = λ q at. ap (λ l. get_or l q []) c.in_ok-inboxes.ensures ∙ get_or-replicate n q [] [] at;
    }

pub index_mut-requires : goal.index_mut-requires
index_mut-requires g c = omega (arith, c.loop-event.invariant.long, c.requires.workers)

pub returns-clause-count : goal.returns-clause-count
returns-clause-count g c = c.loop-event.invariant.long

pub nonzero_div-events : goal.nonzero_div-events
nonzero_div-events g c = omega (arith, c.requires.workers)

pub nonzero_rem-event : goal.nonzero_rem-event
nonzero_rem-event g c = omega (arith, c.requires.workers)

pub returns-clause-each : goal.returns-clause-each
returns-clause-each g c = λ i below.
    c.loop-event.invariant.sorted_out i below
    ∙ ap (filter (λ e. e.to % c.args.workers == i)) (take_all c.loop-event.event-index c.args.events.now (omega (arith, c.loop-event-test.false)))
