use Rattle.std.proofs.Common.{◌≤◌, rules}
use Rattle.rw_pending.specs.Later.{never}
use Rattle.std.proofs.lemmas.Result.{on_ok_weaker}
use Rattle.rw_pending.proofs.ByTime.{before_least_or}
use Rattle.rw_pending.proofs.pending.Pending.pop_before.Goals as goal

pub returns-clause-before : goal.returns-clause-before
returns-clause-before g c =
    let within : c.args.until ≤ never = search rules in
    on_ok_weaker c.pop.result (before_least_or g.B.Ord.cmp c.args.self.now.events c.least.ensures c.if-until-least.false within c.pop.new.next) c.pop.ensures.least

pub returns-clause-least : goal.returns-clause-least
returns-clause-least g c = c.pop.ensures.least

pub returns-clause-taken : goal.returns-clause-taken
returns-clause-taken g c = c.pop.ensures.taken

pub returns-clause-reached : goal.returns-clause-reached
returns-clause-reached g c = c.pop.ensures.reached
