use Rattle.std.proofs.Common.{◌∙◌, refl}
use Rattle.rw_ripq.specs.Work.{work_of}
use Rattle.rw_ripq.proofs.Loops.{turn-made}
use Rattle.rw_ripq.proofs.Records.{Recorded-none, Recorded-then}
use Rattle.rw_ripq.proofs.eviction.evict.Goals as goal

pub loop-block-init : goal.loop-block-init
loop-block-init g c = record { loose = c.requires.loose; room = c.requires.headroom; effect = refl; trail = λ _. Recorded-none _ _ }

pub loop-block-smaller : goal.loop-block-smaller
loop-block-smaller g c =
    (turn-made (work_of c.loop-block.queue c.loop-block.change.counts) (work_of c.evict_last.new.queue c.evict_last.new.change.counts) c.loop-block.invariant.loose c.loop-block.invariant.room (c.in-Some.ensures.some.0) c.in_ok-evict_last.ensures.effect).lower

pub loop-block-preserved : goal.loop-block-preserved
loop-block-preserved g c =
    let step = turn-made (work_of c.loop-block.queue c.loop-block.change.counts) (work_of c.evict_last.new.queue c.evict_last.new.change.counts) c.loop-block.invariant.loose c.loop-block.invariant.room (c.in-Some.ensures.some.0) c.in_ok-evict_last.ensures.effect in
    record {
      loose = step.loose;
      room = step.room;
      effect = step.same ∙ c.loop-block.invariant.effect;
      trail = λ kept. Recorded-then (c.loop-block.invariant.trail kept) (c.in_ok-evict_last.ensures.trail kept);
    }
