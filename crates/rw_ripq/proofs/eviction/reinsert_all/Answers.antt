use Rattle.std.proofs.Common.{◌≡◌, ◌∙◌, ◌+◌, ℕ, List, ◌∷◌, ap, sym, arith, refl, drop}
use Rattle.std.specs.Prelude.{fold, slice_index_or}
use Rattle.std.proofs.lemmas.List.{drop_more}
use Rattle.rw_ripq.specs.Evict.{reinsert, objects_homed}
use Rattle.rw_ripq.specs.Work.{Work, work_of}
use Rattle.rw_ripq.proofs.Basics.{nothing_left}
use Rattle.rw_ripq.proofs.Backs.{back-some, back-made, first-homed}
use Rattle.rw_ripq.proofs.Records.{Recorded-none, Recorded-then}
use Rattle.rw_ripq.proofs.eviction.reinsert_all.Goals as goal

pub loop-object-init : goal.loop-object-init
loop-object-init g c =
    let list : objects_homed c.args.queue.now c.args.block ≡ c.deref-object-items.result.now = sym (c.deref-object-items.ensures.value ∙ c.in_ok-objects.ensures) in
    record { victim = c.requires.victim; room = c.requires.headroom; rest = list; effect = ap (fold reinsert (work_of c.args.queue.now c.args.change.now.counts)) (sym list); trail = λ _. Recorded-none _ _ }

pub reinsert-requires-clause-resident : goal.reinsert-requires-clause-resident
reinsert-requires-clause-resident g c =
    let is = c.loop-object.invariant.rest ∙ drop_more c.deref-object-items.result.now c.loop-object.object-index 0 c.loop-object-test.true in
    let row = first-homed c.loop-object.queue c.args.block _ _ c.loop-object.invariant.victim is in
    rw row.1 refl

pub reinsert-requires-clause-fresh : goal.reinsert-requires-clause-fresh
reinsert-requires-clause-fresh g c =
    let is = c.loop-object.invariant.rest ∙ drop_more c.deref-object-items.result.now c.loop-object.object-index 0 c.loop-object-test.true in
    omega (arith, back-some c.loop-object.queue c.args.block _ _ c.loop-object.invariant.victim is, c.loop-object.invariant.room.serials)

pub loop-object-preserved : goal.loop-object-preserved
loop-object-preserved g c =
    let w : Work = work_of c.loop-object.queue c.loop-object.change.counts in
    let os : List ℕ = drop (c.loop-object.object-index + 1) c.deref-object-items.result.now in
    let o : ℕ = slice_index_or c.deref-object-items.result.now c.loop-object.object-index 0 in
    let more : drop c.loop-object.object-index c.deref-object-items.result.now ≡ o ∷ os = drop_more c.deref-object-items.result.now c.loop-object.object-index 0 c.loop-object-test.true in
    let step = back-made w (work_of c.reinsert.new.queue c.reinsert.new.change.counts) c.args.block o os c.loop-object.invariant.victim (c.loop-object.invariant.rest ∙ more) c.loop-object.invariant.room c.in_ok-reinsert.ensures.effect in
    record {
      victim = step.victim;
      room = step.room;
      rest = step.rest;
      effect = step.same ∙ (ap (fold reinsert w) (sym more) ∙ c.loop-object.invariant.effect);
      trail = λ kept. Recorded-then (c.loop-object.invariant.trail kept) (c.in_ok-reinsert.ensures.trail kept);
    }

pub returns-clause-effect : goal.returns-clause-effect
returns-clause-effect g c =
    sym (ap (fold reinsert (work_of c.loop-object.queue c.loop-object.change.counts)) (nothing_left c.deref-object-items.result.now c.loop-object.object-index c.loop-object-test.false)) ∙ c.loop-object.invariant.effect
