use Rattle.std.proofs.Common.{◌-◌, ◌∙◌, ap, arith, length}
use Rattle.rw_pending.proofs.ByTime.{least_here}
use Rattle.rw_pending.proofs.slot.least_from.Goals as goal

pub returns-then-events-count : goal.returns-then-events-count
returns-then-events-count g c =
    let es = c.args.events.now in
    least_here es c.args.from (length es - 1) c.index-events-count.result (omega arith) c.index-events-count.is (ap (λ e. e.time) c.index-events-count.is ∙ c.if-events-count.true) c.requires (omega arith)
