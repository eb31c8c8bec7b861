use Rattle.rw_serial.proofs.Counting.{no_limit}
use Rattle.rw_serial.proofs.last_states_from.Goals as goal

pub returns-clause-outcome : goal.returns-clause-outcome
returns-clause-outcome g c =
    let ran = c.in_ok-execute_all.ensures in
    let out = ran.outcome (no_limit c.in_ok-execute_all.field-0 _ (λ short limit. ran.used_up short limit tt)) 0 tt in
    (out.0, out.2)
