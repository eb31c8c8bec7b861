use Rattle.std.proofs.Common.{◌≡◌}
use Rattle.rw_windows.specs.Working.{HandedOver, IsAtWork, SameWorker}
use Rattle.rw_windows.proofs.Hearing.{HeardOf}
use Rattle.rw_windows.proofs.worker.Worker.receive_all.Given as goal

abbrev pub invariant-loop-from : goal.invariant-loop-from
invariant-loop-from g l = record {
  at_work : IsAtWork g.M.Model g.M.Body.Ord.cmp l.model l.self;
  same : SameWorker l.fn.self l.self;
  until : l.self.until ≡ l.fn.self.until;
  handed : HandedOver l.self;
  least : HeardOf l.self l.bound_in l.from;
}
