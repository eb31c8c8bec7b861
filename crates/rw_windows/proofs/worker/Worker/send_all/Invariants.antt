use Rattle.std.proofs.Common.{◌≡◌, ℕ, ◌<◌, []}
use Rattle.rw_windows.specs.Working.{IsAtWork, SameWorker, outbox_to}
use Rattle.rw_windows.proofs.worker.Worker.send_all.Given as goal

abbrev pub invariant-loop-to : goal.invariant-loop-to
invariant-loop-to g l = record {
  at_work : IsAtWork g.M.Model g.M.Body.Ord.cmp l.model l.self;
  same : SameWorker l.fn.self l.self;
  until : l.self.until ≡ l.fn.self.until;
  waiting : l.self.waiting ≡ l.fn.self.waiting;
  handed : (v : ℕ) → v < l.to → outbox_to l.self v ≡ [];
}
