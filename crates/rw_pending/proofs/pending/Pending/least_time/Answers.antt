use Rattle.std.proofs.Common.{◌++◌, ◌∙◌, Some, subst, sym}
use Rattle.rw_pending.specs.Later.{IsLeastTime}
use Rattle.rw_pending.proofs.ByTime.{least_append}
use Rattle.rw_pending.proofs.Moving.{least_of_first, least_where_none, least_where_some}
use Rattle.rw_pending.proofs.pending.Pending.least_time.Goals as goal

pub returns-then-is_some : goal.returns-then-is_some
returns-then-is_some g c =
    let at = c.self.inside in
    subst (λ w. IsLeastTime w.events (Some at.time)) c.self.view_is (least_where_some at.time at.initial at.now at.later c.first.result c.self.invariant c.first.ensures.first (sym c.is_some.ensures ∙ c.if-is_some.true))

pub returns : goal.returns
returns g c =
    let at = c.self.inside in
    let initial = subst (IsLeastTime at.initial) (sym c.time_of.ensures) (least_of_first g.B.Ord.cmp at.initial c.first-2.result c.first-2.ensures.first c.first-2.ensures.least) in
    let both = subst (IsLeastTime (at.initial ++ at.later)) (sym c.earlier.ensures) (least_append at.initial at.later c.time_of.result c.least_time.result initial c.least_time.ensures) in
    subst (λ w. IsLeastTime w.events c.earlier.result) c.self.view_is (least_where_none at.initial at.now at.later c.first.result c.earlier.result c.first.ensures.first (sym c.is_some.ensures ∙ c.if-is_some.false) both)
