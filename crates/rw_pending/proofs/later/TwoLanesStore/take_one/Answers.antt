use Rattle.std.proofs.Common.{◌≤◌, ◌<◌, ◌++◌, All, subst, sym}
use Rattle.std.proofs.lemmas.Result.{on_err_weaker, on_ok_weaker}
use Rattle.rw_pending.proofs.ByTime.{All-back, All-front, left_same, left_two, none_behind, one_there, same_behind, taken_at_least, taken_before, taken_behind}
use Rattle.rw_pending.proofs.later.TwoLanesStore.take_one.Goals as goal

pub take_one-requires : goal.take_one-requires
take_one-requires g c =
    let now = c.self.inside in
    let others = g.R.Store.events now.others in
    All-back (λ e. c.args.time ≤ e.time) now.second others (All-back (λ e. c.args.time ≤ e.time) now.first (now.second ++ others) (subst (All (λ e. c.args.time ≤ e.time)) (sym c.self.view_is) c.requires))

pub returns-then-has-clause-taken : goal.returns-then-has-clause-taken
returns-then-has-clause-taken g c =
    let now = c.self.inside in
    rw (← c.self.view_is) (taken_before now.first c.pop.new.self (now.second ++ g.R.Store.events now.others) c.pop.result c.pop.ensures.taken)

pub returns-then-has-clause-of_time : goal.returns-then-has-clause-of_time
returns-then-has-clause-of_time g c =
    let now = c.self.inside in
    let late = All-front (λ e. c.args.time ≤ e.time) now.first (now.second ++ g.R.Store.events now.others) (subst (All (λ e. c.args.time ≤ e.time)) (sym c.self.view_is) c.requires) in
    let least = c.has.ensures.least c.if-has.true in
    taken_at_least c.args.time now.first c.pop.new.self c.pop.result late least c.pop.ensures.taken c.pop.ensures.least

pub returns-then-has-clause-none : goal.returns-then-has-clause-none
returns-then-has-clause-none g c =
    one_there _ c.args.time c.self.inside.first c.pop.result (c.has.ensures.least c.if-has.true) c.pop.ensures.none

pub returns-then-has-2-clause-taken : goal.returns-then-has-2-clause-taken
returns-then-has-2-clause-taken g c =
    let now = c.self.inside in
    let others = g.R.Store.events now.others in
    let pop = c.pop-then-has-2 in
    rw (← c.self.view_is) (taken_behind now.first (now.second ++ others) (pop.new.self ++ others) pop.result (taken_before now.second pop.new.self others pop.result pop.ensures.taken))

pub returns-then-has-2-clause-of_time : goal.returns-then-has-2-clause-of_time
returns-then-has-2-clause-of_time g c =
    let now = c.self.inside in
    let others = g.R.Store.events now.others in
    let pop = c.pop-then-has-2 in
    let late = All-front (λ e. c.args.time ≤ e.time) now.second others (All-back (λ e. c.args.time ≤ e.time) now.first (now.second ++ others) (subst (All (λ e. c.args.time ≤ e.time)) (sym c.self.view_is) c.requires)) in
    let least = c.has-else-has.ensures.least c.if-has-2.true in
    taken_at_least c.args.time now.second pop.new.self pop.result late least pop.ensures.taken pop.ensures.least

pub returns-then-has-2-clause-none : goal.returns-then-has-2-clause-none
returns-then-has-2-clause-none g c =
    let second = c.self.inside.second in
    let pop = c.pop-then-has-2 in
    one_there _ c.args.time second pop.result (c.has-else-has.ensures.least c.if-has-2.true) pop.ensures.none

pub returns-else-has-2-clause-taken : goal.returns-else-has-2-clause-taken
returns-else-has-2-clause-taken g c =
    let now = c.self.inside in
    let before = g.R.Store.events now.others in
    let after = g.R.Store.events c.take_one.new.self in
    let result = c.take_one.new.next in
    rw (← c.self.view_is) (on_ok_weaker c.take_one.result (λ h. taken_behind now.first (now.second ++ before) (now.second ++ after) result (taken_behind now.second before after result h)) c.take_one.ensures.taken)

pub returns-else-has-2-clause-none : goal.returns-else-has-2-clause-none
returns-else-has-2-clause-none g c =
    let t = c.args.time in
    let now = c.self.inside in
    let others = g.R.Store.events now.others in
    let result = c.take_one.new.next in
    let all = subst (All (λ e. c.args.time ≤ e.time)) (sym c.self.view_is) c.requires in
    let late = All-back (λ e. t ≤ e.time) now.first (now.second ++ others) all in
    let first = c.has.ensures.later c.if-has.false (All-front (λ e. t ≤ e.time) now.first (now.second ++ others) all) in
    let second = c.has-else-has.ensures.later c.if-has-2.false (All-front (λ e. t ≤ e.time) now.second others late) in
    rw (← c.self.view_is) (on_ok_weaker c.take_one.result (λ h. none_behind (λ e. t < e.time) now.first (now.second ++ others) result first (none_behind (λ e. t < e.time) now.second others result second h)) c.take_one.ensures.none)

pub returns-then-has-clause-others : goal.returns-then-has-clause-others
returns-then-has-clause-others g c =
    one_there _ c.args.time c.self.inside.first c.pop.result (c.has.ensures.least c.if-has.true) c.pop.ensures.none

pub returns-then-has-2-clause-others : goal.returns-then-has-2-clause-others
returns-then-has-2-clause-others g c =
    let second = c.self.inside.second in
    let pop = c.pop-then-has-2 in
    one_there _ c.args.time second pop.result (c.has-else-has.ensures.least c.if-has-2.true) pop.ensures.none

pub returns-else-has-2-clause-others : goal.returns-else-has-2-clause-others
returns-else-has-2-clause-others g c =
    let now = c.self.inside in
    let before = g.R.Store.events now.others in
    let after = g.R.Store.events c.take_one.new.self in
    let result = c.take_one.new.next in
    rw (← c.self.view_is) (on_ok_weaker c.take_one.result (λ h. same_behind now.first (now.second ++ before) (now.second ++ after) result (same_behind now.second before after result h)) c.take_one.ensures.others)

pub returns-else-has-2-clause-left : goal.returns-else-has-2-clause-left
returns-else-has-2-clause-left g c =
    let now = c.self.inside in
    rw (← c.self.view_is) (on_err_weaker c.take_one.result (λ h. left_two (left_same now.first) (left_two (left_same now.second) h)) c.take_one.ensures.left)
