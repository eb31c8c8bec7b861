use Rattle.rw_report.proofs.Runs.{ready-at}
use Rattle.rw_process_tests.proofs.purges.counted.Goals as goal

pub run-requires : goal.run-requires
run-requires c = record { ready = ready-at c.args.config.now c.new.result c.in-Ok.starts.items c.in-Ok.initial.items c.new.ensures c.in-Ok.ensures.beginning.ready }
