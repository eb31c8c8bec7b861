use Rattle.std.proofs.Common.{◌≡◌, true, drop}
use Rattle.std.specs.Prelude.{fold}
use Rattle.rw_ripq.specs.Work.{work_of}
use Rattle.rw_ripq.specs.Evict.{reinsert, objects_homed}
use Rattle.rw_ripq.specs.Victim.{IsVictim}
use Rattle.rw_ripq.specs.Record.{Recorded, HasHeadroom}
use Rattle.rw_ripq.proofs.eviction.reinsert_all.Given as goal

abbrev pub invariant-loop-object : goal.invariant-loop-object
invariant-loop-object g l =
    record {
      victim : IsVictim l.block l.queue;
      room : HasHeadroom (work_of l.queue l.change.counts);
      rest : objects_homed l.queue l.block ≡ drop l.object-index l.object-items;
      effect : fold reinsert (work_of l.queue l.change.counts) (drop l.object-index l.object-items) ≡ fold reinsert (work_of l.fn.queue l.fn.change.counts) (objects_homed l.fn.queue l.block);
      trail : g.M.Marks.keeps ≡ true → Recorded (g.M.Marks.list l.fn.change.trail) (work_of l.fn.queue l.fn.change.counts) (g.M.Marks.list l.change.trail) (work_of l.queue l.change.counts);
    }
