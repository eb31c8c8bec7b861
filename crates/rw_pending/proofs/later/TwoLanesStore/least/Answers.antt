use Rattle.std.proofs.Common.{min, subst, sym, ◌++◌, ◌∙◌, ap}
use Rattle.rw_pending.specs.Later.{IsLeastOr, never}
use Rattle.rw_pending.proofs.ByTime.{least_or_three}
use Rattle.rw_pending.proofs.later.TwoLanesStore.least.Goals as goal

pub returns : goal.returns
returns g c =
    let lanes = c.self.inside in
    rw (← c.self.view_is) (subst (IsLeastOr never (lanes.first ++ (lanes.second ++ g.R.Store.events lanes.others))) (sym (c.min.ensures ∙ ap (λ t. min t c.least-3.result) c.min-lanes.ensures))
    (least_or_three c.least.ensures c.least-2.ensures c.least-3.ensures))
