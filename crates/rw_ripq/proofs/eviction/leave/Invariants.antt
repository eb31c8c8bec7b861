use Rattle.std.proofs.Common.{◌≡◌, true, drop}
use Rattle.rw_blocks.specs.Loose.{IsLoose}
use Rattle.rw_ripq.specs.Work.{work_of}
use Rattle.rw_ripq.specs.Evict.{leave, objects_placed}
use Rattle.rw_ripq.specs.Record.{Recorded, HasHeadroom}
use Rattle.rw_ripq.proofs.eviction.leave.Given as goal

abbrev pub invariant-loop-object : goal.invariant-loop-object
invariant-loop-object g l =
    record {
      loose : IsLoose l.queue;
      room : HasHeadroom (work_of l.queue l.change.counts);
      rest : objects_placed l.queue l.block ≡ drop l.object-index l.object-items;
      effect : leave (work_of l.queue l.change.counts) (drop l.object-index l.object-items) ≡ leave (work_of l.fn.queue l.fn.change.counts) (objects_placed l.fn.queue l.block);
      trail : g.M.Marks.keeps ≡ true → Recorded (g.M.Marks.list l.fn.change.trail) (work_of l.fn.queue l.fn.change.counts) (g.M.Marks.list l.change.trail) (work_of l.queue l.change.counts);
    }
