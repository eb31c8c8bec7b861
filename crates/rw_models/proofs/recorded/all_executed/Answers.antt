use Rattle.rw_models.proofs.Lists.{gathered_more}
use Rattle.rw_models.proofs.recorded.all_executed.Goals as goal

pub loop-record-preserved : goal.loop-record-preserved
loop-record-preserved g c =
    gathered_more c.args.records.now c.loop-record.record-index c.record-item.result c.loop-record.events.items c.events.result.now c.extend_from_slice.new.self.items c.loop-record-test.true
    c.record-item.is c.events.ensures c.loop-record.invariant c.in_ok-extend_from_slice.ensures.items
