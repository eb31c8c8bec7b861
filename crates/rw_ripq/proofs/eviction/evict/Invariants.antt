use Rattle.std.proofs.Common.{◌≡◌, true}
use Rattle.rw_blocks.specs.Loose.{IsLoose}
use Rattle.rw_ripq.specs.Work.{work_of}
use Rattle.rw_ripq.specs.Evict.{evict}
use Rattle.rw_ripq.specs.Record.{Recorded, HasHeadroom}
use Rattle.rw_ripq.proofs.Folds.{measure}
use Rattle.rw_ripq.proofs.eviction.evict.Given as goal

abbrev pub invariant-loop-block : goal.invariant-loop-block
invariant-loop-block g l =
    record {
      loose : IsLoose l.queue;
      room : HasHeadroom (work_of l.queue l.change.counts);
      effect : evict (work_of l.queue l.change.counts) ≡ evict (work_of l.fn.queue l.fn.change.counts);
      trail : g.M.Marks.keeps ≡ true → Recorded (g.M.Marks.list l.fn.change.trail) (work_of l.fn.queue l.fn.change.counts) (g.M.Marks.list l.change.trail) (work_of l.queue l.change.counts);
    }

abbrev pub decreases-loop-block : goal.decreases-loop-block
decreases-loop-block g l = measure l.queue
