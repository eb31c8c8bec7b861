use Rattle.std.proofs.Common.{◌≡◌, ◌∙◌, ◌+◌, ℕ, List, ◌∷◌, sym, ap, refl, drop}
use Rattle.std.specs.Prelude.{slice_index_or}
use Rattle.std.proofs.lemmas.List.{drop_more}
use Rattle.rw_ripq.specs.Work.{Work, work_of}
use Rattle.rw_ripq.specs.Evict.{leave, objects_placed}
use Rattle.rw_ripq.proofs.Basics.{nothing_left}
use Rattle.rw_ripq.proofs.Loops.{first-placed, leave-made}
use Rattle.rw_ripq.proofs.Walks.{same-leave}
use Rattle.rw_ripq.proofs.Records.{Recorded-none, Recorded-then, Recorded-remove}
use Rattle.rw_ripq.proofs.eviction.leave.Goals as goal

pub loop-object-init : goal.loop-object-init
loop-object-init g c =
    let list : objects_placed c.args.queue.now c.args.block ≡ c.deref-object-items.result.now = sym (c.deref-object-items.ensures.value ∙ c.in_ok-objects.ensures) in
    record { loose = c.requires.loose; room = c.requires.headroom; rest = list; effect = ap (leave (work_of c.args.queue.now c.args.change.now.counts)) (sym list); trail = λ _. Recorded-none _ _ }

pub remove-requires-clause-resident : goal.remove-requires-clause-resident
remove-requires-clause-resident g c =
    let is = c.loop-object.invariant.rest ∙ drop_more c.deref-object-items.result.now c.loop-object.object-index 0 c.loop-object-test.true in
    let row = first-placed c.loop-object.queue c.args.block _ _ c.loop-object.invariant.loose is in
    rw row.1 refl

pub loop-object-preserved : goal.loop-object-preserved
loop-object-preserved g c =
    let w : Work = work_of c.loop-object.queue c.loop-object.change.counts in
    let os : List ℕ = drop (c.loop-object.object-index + 1) c.deref-object-items.result.now in
    let o : ℕ = slice_index_or c.deref-object-items.result.now c.loop-object.object-index 0 in
    let more : drop c.loop-object.object-index c.deref-object-items.result.now ≡ o ∷ os = drop_more c.deref-object-items.result.now c.loop-object.object-index 0 c.loop-object-test.true in
    let step = leave-made w c.args.block o os _ c.loop-object.invariant.loose c.loop-object.invariant.room (c.loop-object.invariant.rest ∙ more) c.in_ok-mark.ensures.effect in
    record {
      loose = step.loose;
      room = step.room;
      rest = step.rest;
      effect = step.same ∙ (ap (leave w) (sym more) ∙ c.loop-object.invariant.effect);
      trail = λ kept. Recorded-then (c.loop-object.invariant.trail kept) (Recorded-remove _ _ _ _ _ _ _ (c.in_ok-push.ensures kept) c.in_ok-mark.ensures.undoes c.in_ok-mark.ensures.effect);
    }

pub returns-clause-effect : goal.returns-clause-effect
returns-clause-effect g c =
    let w : Work = work_of c.loop-object.queue c.loop-object.change.counts in
    sym (ap (leave w) (nothing_left c.deref-object-items.result.now c.loop-object.object-index c.loop-object-test.false) ∙ same-leave w) ∙ c.loop-object.invariant.effect
