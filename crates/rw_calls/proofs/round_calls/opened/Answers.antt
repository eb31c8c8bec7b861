use Rattle.rw_report.proofs.Runs.{ready-at}
use Rattle.rw_calls.proofs.round_calls.opened.Goals as goal

pub open-requires : goal.open-requires
open-requires c = record { ready = ready-at c.args.config.now c.new.result c.in_ok-starts.starts.items c.in_ok-starts.initial.items c.new.ensures c.in_ok-starts.ensures.beginning.ready }
