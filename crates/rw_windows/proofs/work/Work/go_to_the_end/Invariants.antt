use Rattle.rw_windows.specs.Working.{IsAtWork, SameWorker}
use Rattle.rw_windows.proofs.work.Work.go_to_the_end.Given as goal

abbrev pub invariant-loop : goal.invariant-loop
invariant-loop g l = record {
  at_work : IsAtWork g.M.Model g.M.Body.Ord.cmp l.fn.self.model l.worker;
  same : SameWorker l.fn.worker l.worker;
}
