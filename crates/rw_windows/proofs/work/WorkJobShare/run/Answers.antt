use Rattle.std.proofs.Common.{subst, sym}
use Rattle.rw_windows.specs.Working.{HasWorked}
use Rattle.rw_windows.proofs.Workers.{handed_over_too, reordered, same_reordered, same_then}
use Rattle.rw_windows.proofs.work.WorkJobShare.run.Goals as goal

pub work-worked-requires : goal.work-worked-requires
work-worked-requires g c =
    let share = c.args.share in
    let worker = c.in_ok-worker.worker in
    let is = c.in_ok-worker.ensures.is in
    record {
      begins = (reordered c.args.self.now.model share c.requires.takes.0 worker is, handed_over_too share worker is c.requires.takes.1);
    }

pub returns-in-Ok : goal.returns-in-Ok
returns-in-Ok g c =
    let share = c.args.share in
    let worker = c.in_ok-worker.worker in
    let worked = c.in-Ok.ensures.worked in
    record {
      gives = subst (HasWorked g.M.Model g.M.Body.Ord.cmp c.args.self.now.model share) (sym c.with_left-share.ensures) (record {
        at_work = worked.at_work;
        same = same_then share worker _ (same_reordered share worker c.in_ok-worker.ensures.is) worked.same;
        waits = worked.waits;
      });
    }
