use Rattle.rw_round_tests.proofs.Sourced.{ready_from}
use Rattle.rw_round_tests.proofs.phold_runs.counted_in_one_round.Goals as goal

pub run_alone_from-requires : goal.run_alone_from-requires
run_alone_from-requires c = record { ready = ready_from _ c.in_ok-phold.phold c.in_ok-phold.starts.items c.in_ok-phold.ensures.ready c.in_ok-source.ensures }
