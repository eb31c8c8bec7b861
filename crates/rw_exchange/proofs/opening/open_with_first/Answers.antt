use Rattle.std.proofs.Common.{◌∙◌, ap}
use Rattle.rw_exchange.specs.Ports.{entry}
use Rattle.rw_exchange.proofs.First.{none_itself}
use Rattle.rw_exchange.proofs.opening.open_with_first.Goals as goal

pub returns-clause-first_sent : goal.returns-clause-first_sent
returns-clause-first_sent g c from to l k other =
    let first = c.in_ok-rows.ensures.first from to l k other in (
      ap (λ z. entry z from to) c.in_ok-ports.ensures.sent ∙ first.0,
      ap (λ z. entry z to from) c.in_ok-ports.ensures.received ∙ first.1,
    )

pub returns-clause-own : goal.returns-clause-own
returns-clause-own g c i within =
    let none = none_itself c.args.workers c.in_ok-rows.rows.items c.in_ok-rows.columns.items c.in_ok-rows.ensures.crossed i within in (
      ap (λ z. entry z i i) c.in_ok-ports.ensures.sent ∙ none.0,
      ap (λ z. entry z i i) c.in_ok-ports.ensures.received ∙ none.1,
    )

pub deal-requires-clause-crossed : goal.deal-requires-clause-crossed
deal-requires-clause-crossed g c = c.in_ok-rows.ensures.crossed

pub deal-requires-clause-capacity : goal.deal-requires-clause-capacity
deal-requires-clause-capacity g c = c.in_ok-rows.ensures.capacity

pub returns-clause-count : goal.returns-clause-count
returns-clause-count g c = c.in_ok-ports.ensures.count

pub returns-clause-opening : goal.returns-clause-opening
returns-clause-opening g c = c.in_ok-ports.ensures.opening

pub returns-clause-stays : goal.returns-clause-stays
returns-clause-stays g c = c.in_ok-ports.ensures.stays

pub returns-clause-capacity : goal.returns-clause-capacity
returns-clause-capacity g c = c.in_ok-ports.ensures.capacity
