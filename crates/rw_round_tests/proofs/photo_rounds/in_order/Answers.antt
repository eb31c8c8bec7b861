use Rattle.rw_report.proofs.Runs.{ready-at}
use Rattle.rw_round_tests.proofs.photo_rounds.in_order.Goals as goal

pub run-requires : goal.run-requires
run-requires c = record { ready = ready-at c.in_ok-config.config c.new.result c.in-Ok.starts.items c.in-Ok.initial.items c.new.ensures c.in-Ok.ensures.beginning.ready }
