use Rattle.std.proofs.Common.{◌≤◌, All, subst}
use Rattle.rw_windows.proofs.Workers.{same_then, worked}
use Rattle.rw_windows.proofs.work.Work.work.Goals as goal

pub returns : goal.returns
returns g c =
    let first = c.args.worker.now in
    let ran = c.go_to_the_end.new.worker in
    record {
      worked = worked g.M.Model g.M.Body.Ord.cmp c.args.self.now.model first ran _
          (same_then first c.go_further.new.self ran c.go_further.ensures.same c.in_ok-go_to_the_end.ensures.same) c.in_ok-go_to_the_end.ensures.at_work
          c.in_ok-left.ensures.left
          (λ e. subst (λ t. All (λ a. t ≤ a.time) ran.waiting) e c.in_ok-go_to_the_end.ensures.none);
    }
