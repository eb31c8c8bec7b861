use Rattle.std.proofs.Common.{◌≤◌, ◌++◌, ◌∙◌, Some, refl, rules, subst, sym}
use Rattle.rw_pending.specs.Later.{IsLeastOr, IsLeastTime, never}
use Rattle.rw_pending.proofs.ByTime.{least_or_append}
use Rattle.rw_pending.proofs.Moving.{least_where_some}
use Rattle.rw_pending.proofs.Waiting.{no_first}
use Rattle.rw_pending.proofs.pending.Pending.least.Goals as goal

pub returns-then-is_some : goal.returns-then-is_some
returns-then-is_some g c =
    let at = c.self.inside in
    let within : at.time ≤ never = search rules in
    record {
      found = Some at.time;
      least = subst (λ w. IsLeastTime w.events (Some at.time)) c.self.view_is (least_where_some at.time at.initial at.now at.later c.first.result c.self.invariant c.first.ensures.first (sym c.is_some.ensures ∙ c.if-is_some.true));
      value = refl;
      within = within;
    }

pub returns : goal.returns
returns g c =
    let at = c.self.inside in
    let none = no_first c.first.result at.now c.first.ensures.first (sym c.is_some.ensures ∙ c.if-is_some.false) in
    subst (λ w. IsLeastOr never w.events c.min.result) c.self.view_is
    (subst (λ l. IsLeastOr never (at.initial ++ (l ++ at.later)) c.min.result) (sym none)
    (subst (IsLeastOr never (at.initial ++ at.later)) (sym c.min.ensures) (least_or_append c.least.ensures.least c.least-2.ensures)))
