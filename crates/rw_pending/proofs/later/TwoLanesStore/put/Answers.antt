use Rattle.std.proofs.Common.{◌++◌}
use Rattle.std.proofs.lemmas.Result.{on_ok_weaker}
use Rattle.rw_pending.proofs.ByTime.{put_before, put_behind}
use Rattle.rw_pending.proofs.later.TwoLanesStore.put.Goals as goal

pub returns-then-takes-clause-added : goal.returns-then-takes-clause-added
returns-then-takes-clause-added g c =
    let now = c.self.inside in
    rw (← c.self.view_is) (on_ok_weaker c.push.result (put_before now.first c.push.new.self (now.second ++ g.R.Store.events now.others) c.args.event.now) c.push.ensures.added)

pub returns-then-takes-2-clause-added : goal.returns-then-takes-2-clause-added
returns-then-takes-2-clause-added g c =
    let now = c.self.inside in
    let e = c.args.event.now in
    let pushed = c.push-then-takes-2 in
    let others = g.R.Store.events now.others in
    rw (← c.self.view_is) (on_ok_weaker pushed.result (λ is. put_behind now.first (now.second ++ others) (pushed.new.self ++ others) e (put_before now.second pushed.new.self others e is)) pushed.ensures.added)

pub returns-else-takes-2-clause-added : goal.returns-else-takes-2-clause-added
returns-else-takes-2-clause-added g c =
    let now = c.self.inside in
    let e = c.args.event.now in
    let before = g.R.Store.events now.others in
    let after = g.R.Store.events c.put.new.self in
    rw (← c.self.view_is) (on_ok_weaker c.put.result (λ is. put_behind now.first (now.second ++ before) (now.second ++ after) e (put_behind now.second before after e is)) c.put.ensures.added)
