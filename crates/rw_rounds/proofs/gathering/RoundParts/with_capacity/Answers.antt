use Rattle.rw_rounds.proofs.gathering.RoundParts.with_capacity.Goals as goal

pub returns-clause-none : goal.returns-clause-none
returns-clause-none g c = (c.in_ok-shares.ensures.items, c.in_ok-kept.ensures.items, c.in_ok-aside.ensures.items, c.in_ok-ports.ensures.items, c.in_ok-seats.ensures.items)

pub returns-clause-room : goal.returns-clause-room
returns-clause-room g c = (c.in_ok-shares.ensures.exact, c.in_ok-kept.ensures.exact, c.in_ok-aside.ensures.exact, c.in_ok-ports.ensures.exact, c.in_ok-seats.ensures.exact)
