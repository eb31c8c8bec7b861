use Rattle.std.proofs.Common.{sym, ap, ◌∙◌}
use Rattle.std.specs.Ordering.{is_gt}
use Rattle.rw_vt.specs.Order.{event_cmp}
use Rattle.rw_lp.proofs.Lasts.{last_is}
use Rattle.rw_lp.proofs.history.ends_after.Goals as goal

pub returns-in-Some : goal.returns-in-Some
returns-in-Some g c = c.is_gt.ensures ∙ ap is_gt c.cmp.ensures ∙ sym (last_is (event_cmp g.B.Ord.cmp) c.args.event.now c.args.events.now c.in-Some._front.now c.in-Some.last.now c.in-Some.ensures.cases.0)
