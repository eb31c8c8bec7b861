use Rattle.rw_round_tests.proofs.Sourced.{ready_from}
use Rattle.rw_round_tests.proofs.phold_runs.is_given_up.Goals as goal

pub last_states_within_from-requires : goal.last_states_within_from-requires
last_states_within_from-requires c = record { ready = ready_from _ c.in_ok-phold.phold c.in_ok-phold.starts.items c.in_ok-phold.ensures.ready c.in_ok-source.ensures }
