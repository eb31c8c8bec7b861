use Rattle.std.proofs.Common.{◌≤◌, ◌++◌, All, subst, sym}
use Rattle.std.proofs.lemmas.Result.{on_err_weaker, on_ok_weaker}
use Rattle.rw_pending.proofs.ByTime.{All-back, All-front, left_moved, left_same, left_two, moved_two, on_err}
use Rattle.rw_pending.proofs.later.TwoLanesStore.take.Goals as goal

pub take-requires : goal.take-requires
take-requires g c =
    let now = c.self.inside in
    All-front (λ e. c.args.time ≤ e.time) now.first (now.second ++ g.R.Store.events now.others) (subst (All (λ e. c.args.time ≤ e.time)) (sym c.self.view_is) c.requires)

pub take-requires-2 : goal.take-requires-2
take-requires-2 g c =
    let now = c.self.inside in
    let others = g.R.Store.events now.others in
    All-front (λ e. c.args.time ≤ e.time) now.second others (All-back (λ e. c.args.time ≤ e.time) now.first (now.second ++ others) (subst (All (λ e. c.args.time ≤ e.time)) (sym c.self.view_is) c.requires))

pub take-requires-3 : goal.take-requires-3
take-requires-3 g c =
    let now = c.self.inside in
    let others = g.R.Store.events now.others in
    All-back (λ e. c.args.time ≤ e.time) now.second others (All-back (λ e. c.args.time ≤ e.time) now.first (now.second ++ others) (subst (All (λ e. c.args.time ≤ e.time)) (sym c.self.view_is) c.requires))

pub returns-in_err-take-clause-left : goal.returns-in_err-take-clause-left
returns-in_err-take-clause-left g c =
    let now = c.self.inside in
    rw (← c.self.view_is) (on_err c.from_residual.result (left_two c.in_err-take.ensures.left (left_same (now.second ++ g.R.Store.events now.others))))

pub returns-in_err-take-2-clause-left : goal.returns-in_err-take-2-clause-left
returns-in_err-take-2-clause-left g c =
    rw (← c.self.view_is) (on_err c.from_residual-in_err-take-2.result
    (left_two (left_moved c.in_ok-take.ensures.moved) (left_two c.in_err-take-2.ensures.left (left_same (g.R.Store.events c.self.inside.others)))))

pub returns-clause-moved : goal.returns-clause-moved
returns-clause-moved g c = rw (← c.self.view_is) (on_ok_weaker c.take-3.result (λ h. moved_two c.in_ok-take.ensures.moved (moved_two c.in_ok-take-2.ensures.moved h)) c.take-3.ensures.moved)

pub returns-clause-left : goal.returns-clause-left
returns-clause-left g c = rw (← c.self.view_is) (on_err_weaker c.take-3.result (λ h. left_two (left_moved c.in_ok-take.ensures.moved) (left_two (left_moved c.in_ok-take-2.ensures.moved) h)) c.take-3.ensures.left)
