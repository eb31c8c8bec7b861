use Rattle.std.proofs.Common.{◌≡◌, ◌≤◌, All, ap, ◌∙◌, arith, length, subst, sym}
use Rattle.rw_windows.specs.Running.{HaveEnded, IsLeftOfRun}
use Rattle.rw_windows.proofs.Ended.{ended}
use Rattle.rw_windows.proofs.running.run_in_windows.Given as given
use Rattle.rw_windows.proofs.running.run_in_windows.Goals as goal
use Rattle.rw_windows.proofs.running.run_in_windows.Goals.{Else-not-all_done}

-- the model comes back with the work
same_model : (g : given.Over) (c : Else-not-all_done g) → c.in_ok-work.work.model ≡ c.args.stage.model
same_model g c = ap (λ w. w.model) c.in_ok-work.ensures.job

-- all have come to the end
came : (g : given.Over) (c : Else-not-all_done g) → HaveEnded g.M.Model g.M.Body.Ord.cmp c.in_ok-work.work.model (length c.in_ok-work.shares.items) c.args.windows.end c.args.stage.states.items c.args.stage.events.items c.in_ok-work.shares.items
came g c =
    let it = c.in_ok-work.ensures in
    let shares = c.in_ok-work.shares.items in
    subst (λ m. HaveEnded g.M.Model g.M.Body.Ord.cmp m (length shares) c.args.windows.end c.args.stage.states.items c.args.stage.events.items shares) (sym (same_model g c))
    (ended c.in_ok-shares.shares.items shares c.in_ok-shares.ensures.begun it.count it.each (subst (All (λ w. w.end ≤ w.until)) c.deref.ensures.value (c.all_done.ensures.done c.if-not-all_done.false)))

pub gather-requires-clause-ended : goal.gather-requires-clause-ended
gather-requires-clause-ended g c =
    let as_many : length c.args.stage.states.items ≡ c.len-count.result = omega (arith, c.len-count.ensures, c.args.stage.states.ok.0) in
    (c.args.windows.end, c.args.stage.states.items, c.args.stage.events.items, as_many, came g c)

pub returns-clause-left : goal.returns-clause-left
returns-clause-left g c =
    let at = (goal.at.returns-clause-left g c).Else-not-all_done in
    let as_many : length c.args.stage.states.items ≡ c.len-count.result = omega (arith, c.len-count.ensures, c.args.stage.states.ok.0) in
    let left = c.in_ok-left.left in
    subst (λ m. IsLeftOfRun g.M.Model g.M.Body.Ord.cmp m c.args.windows.end c.args.stage.states.items c.args.stage.events.items left.stage.states.items left.stage.events.items) (same_model g at)
    (c.in_ok-left.ensures.left c.args.windows.end c.args.stage.states.items c.args.stage.events.items as_many (came g at))

pub run_each-requires : goal.run_each-requires
run_each-requires g c = record { takes = c.in_ok-shares.ensures.begun.can_begin }

pub gather-requires-clause-some : goal.gather-requires-clause-some
gather-requires-clause-some g c = omega (arith, c.in_ok-work.ensures.count, c.in_ok-shares.ensures.begun.many, c.requires.workers)

pub returns-clause-model : goal.returns-clause-model
returns-clause-model g c = c.in_ok-left.ensures.model ∙ same_model g (goal.at.returns-clause-model g c).Else-not-all_done
