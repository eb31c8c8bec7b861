use Rattle.std.proofs.Common.{◌≡◌, ◌<◌, [], length, map, get_or, sym, ap, ◌∙◌, arith}
use Rattle.std.specs.Prelude.{◌%◌}
use Rattle.std.proofs.lemmas.List.{length-set, length-map, length-replicate, get_or-replicate}
use Rattle.rw_pool.proofs.Lists.{pushed_at}
use Rattle.rw_rounds.proofs.Walking.{sorted_more}
use Rattle.rw_rounds.proofs.setting_up.split_letters.Goals as goal

pub loop-letter-preserved : goal.loop-letter-preserved
loop-letter-preserved g c =
    let inboxes = c.loop-letter.inboxes.items in
    let boxes = map (λ b. b.items) inboxes in
    let x = c.letter-item.result in
    let n = c.args.workers in
    let known = c.loop-letter.invariant in
    let some : 0 < n = omega (arith, c.requires.workers) in
    let small : x.event.to % n < n = omega arith in
    let within : x.event.to % n < length inboxes = omega (arith, known.long) in
    let long : length boxes ≡ n = length-map inboxes (λ b. b.items) ∙ known.long in
    let pushed = pushed_at (λ b. b.items) inboxes (x.event.to % n) c.index_mut.result.now c.push.new.self x within c.index_mut.ensures.value c.in_ok-push.ensures.items in
    record {
      long = length-set inboxes (x.event.to % n) c.push.new.self ∙ known.long;
      sorted_out = λ q at. ap (λ l. get_or l q []) pushed ∙ sorted_more (λ a. a.event.to % n) boxes n c.args.letters.now c.loop-letter.letter-index x long small c.loop-letter-test.true c.letter-item.is known.sorted_out q at;
    }

pub loop-letter-init : goal.loop-letter-init
loop-letter-init g c =
    let inboxes = c.in_ok-inboxes.inboxes.items in
    let n = c.args.workers in
    record {
      long = sym (length-map inboxes (λ b. b.items)) ∙ ap length c.in_ok-inboxes.ensures ∙ length-replicate n [];
      sorted_out = λ q at. ap (λ l. get_or l q []) c.in_ok-inboxes.ensures ∙ get_or-replicate n q [] [] at;
    }

pub index_mut-requires : goal.index_mut-requires
index_mut-requires g c = omega (arith, c.loop-letter.invariant.long, c.requires.workers)

pub returns-clause-count : goal.returns-clause-count
returns-clause-count g c = c.loop-letter.invariant.long
