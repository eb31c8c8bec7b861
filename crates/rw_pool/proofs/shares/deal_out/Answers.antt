use Rattle.std.proofs.Common.{◌≡◌, ◌+◌, ◌*◌, ◌<◌, [], ◌∷◌, ◌++◌, length, map, get_or, sym, ap, ◌∙◌, arith, append_assoc, length-append}
use Rattle.std.specs.Prelude.{◌%◌, slice_get, slice_set}
use Rattle.std.proofs.lemmas.List.{length-set, length-map, length-replicate, get_or-replicate}
use Rattle.rw_pool.proofs.Lists.{pushed_at, all_walked}
use Rattle.rw_pool.proofs.Dealing.{dealt_more, next_turn}
use Rattle.rw_pool.proofs.shares.deal_out.Goals as goal

pub loop-item-preserved : goal.loop-item-preserved
loop-item-preserved g c =
    let shares = c.loop-item.shares.items in
    let boxes = map (λ h. h.items) shares in
    let done = c.loop-item.yielded in
    let x = c.in-Some.item in
    let n = c.args.workers in
    let known = c.loop-item.invariant in
    let some : 0 < n = omega (arith, c.requires.workers) in
    let within : c.loop-item.next < length shares = omega (arith, known.long, known.next) in
    let long : length boxes ≡ n = length-map shares (λ h. h.items) ∙ known.long in
    let pushed = pushed_at (λ h. h.items) shares c.loop-item.next c.index_mut.result.now c.push.new.self x within c.index_mut.ensures.value c.in_ok-push.ensures.items in
    let at_turn = ap (λ p. slice_set boxes p (get_or boxes p [] ++ x ∷ [])) known.next in
    let r : c.loop-item.item-iterator.rest.items ≡ x ∷ c.next.new.self.rest.items = c.in-Some.ensures.steps.0 in
    let one : length done + 1 ≡ length (done ++ x ∷ []) = omega (arith, length-append done (x ∷ [])) in
    record {
      long = length-set shares c.loop-item.next c.push.new.self ∙ known.long;
      next = ap (λ k. (k + 1) % n) known.next ∙ next_turn n (length done) some ∙ ap (λ k. k % n) one;
      walked = append_assoc done (x ∷ []) c.next.new.self.rest.items ∙ (ap (λ z. done ++ z) (sym r) ∙ known.walked);
      dealt = λ i place inside. ap (λ hs. slice_get (get_or hs i []) place) (pushed ∙ at_turn) ∙ dealt_more n some boxes done x long known.dealt i place inside;
    }

pub returns-clause-each : goal.returns-clause-each
returns-clause-each g c i place inside =
    let known = c.loop-item.invariant in
    let zero : length c.loop-item.item-iterator.rest.items ≡ 0 = sym c.loop-item.item-iterator.rest.ok.0 ∙ c.in-None.ensures.steps.0 in
    known.dealt i place inside ∙ ap (λ xs. slice_get xs (i + place * c.args.workers)) (all_walked c.loop-item.yielded c.loop-item.item-iterator.rest.items c.args.list.items known.walked zero)

pub loop-item-init : goal.loop-item-init
loop-item-init g c =
    let shares = c.in_ok-shares.shares.items in
    let n = c.args.workers in
    let some : 0 < n = omega (arith, c.requires.workers) in
    record {
      long = sym (length-map shares (λ h. h.items)) ∙ ap length c.in_ok-shares.ensures ∙ length-replicate n [];
      next = omega arith;
      walked = c.into_iter-item-iterator.ensures.into_iter_gives.0;
      dealt = λ i place below. ap (λ hs. slice_get (get_or hs i []) place) c.in_ok-shares.ensures ∙ ap (λ h. slice_get h place) (get_or-replicate n i [] [] below);
    }

pub index_mut-requires : goal.index_mut-requires
index_mut-requires g c = omega (arith, c.loop-item.invariant.long, c.loop-item.invariant.next, c.requires.workers)

pub overflow_add-next : goal.overflow_add-next
overflow_add-next g c = omega (arith, c.loop-item.invariant.next, c.requires.workers)

pub returns-clause-count : goal.returns-clause-count
returns-clause-count g c = c.loop-item.invariant.long
