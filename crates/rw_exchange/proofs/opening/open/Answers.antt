use Rattle.std.proofs.Common.{refl}
use Rattle.rw_exchange.proofs.First.{all_new}
use Rattle.rw_exchange.proofs.opening.open.Goals as goal

pub returns-clause-new : goal.returns-clause-new
returns-clause-new g c = all_new c.in_ok-ports.ports.items c.in_ok-rows.rows.items c.in_ok-rows.columns.items c.in_ok-ports.ensures.sent c.in_ok-ports.ensures.received
    (c.in_ok-rows.ensures.sent (λ from to. refl)) (c.in_ok-rows.ensures.received (λ from to. refl))

pub returns-clause-free : goal.returns-clause-free
returns-clause-free g c = c.in_ok-ports.ensures.free (c.in_ok-rows.ensures.free (λ from to. refl))

pub returns-clause-count : goal.returns-clause-count
returns-clause-count g c = c.in_ok-ports.ensures.count

pub returns-clause-opening : goal.returns-clause-opening
returns-clause-opening g c = c.in_ok-ports.ensures.opening

pub returns-clause-stays : goal.returns-clause-stays
returns-clause-stays g c = c.in_ok-ports.ensures.stays

pub returns-clause-capacity : goal.returns-clause-capacity
returns-clause-capacity g c = c.in_ok-ports.ensures.capacity

pub deal-requires-clause-crossed : goal.deal-requires-clause-crossed
deal-requires-clause-crossed g c = c.in_ok-rows.ensures.crossed

pub deal-requires-clause-capacity : goal.deal-requires-clause-capacity
deal-requires-clause-capacity g c = c.in_ok-rows.ensures.capacity
