use Rattle.std.proofs.Common.{refl}
use Rattle.rw_rounds.proofs.Stopping.{ok-is-no-plan}
use Rattle.rw_rounds.proofs.sim.Sim.open.Goals as goal

pub returns-then-not-is_valid-clause-plan : goal.returns-then-not-is_valid-clause-plan
returns-then-not-is_valid-clause-plan g c = ((λ is ranges. (let valid = c.if-not-is_valid.ensures.1 ranges in cc)), λ out. refl)

pub returns-clause-plan : goal.returns-clause-plan
returns-clause-plan g c = ((λ is. absurd (ok-is-no-plan _ is)), λ out. absurd (out (c.if-not-is_valid.ensures.0 refl)))

pub returns-then-not-is_valid-clause-holds : goal.returns-then-not-is_valid-clause-holds
returns-then-not-is_valid-clause-holds g c = tt

pub returns-then-not-is_valid-clause-others : goal.returns-then-not-is_valid-clause-others
returns-then-not-is_valid-clause-others g c = refl

pub invariant_of-result : goal.invariant_of-result
invariant_of-result g c = c.if-not-is_valid.ensures.0 refl

pub returns-clause-holds : goal.returns-clause-holds
returns-clause-holds g c = refl

pub returns-clause-others : goal.returns-clause-others
returns-clause-others g c = tt
