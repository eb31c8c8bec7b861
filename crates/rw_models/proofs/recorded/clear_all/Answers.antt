use Rattle.rw_models.proofs.Lists.{cleared_more}
use Rattle.rw_models.proofs.recorded.clear_all.Goals as goal

pub loop-record-preserved : goal.loop-record-preserved
loop-record-preserved g c =
    cleared_more c.loop-record.record-items c.deref_mut-record-items.result.now c.loop-record.record-index c.record-item.result c.clear.new.self c.loop-record-test.true c.clear.ensures
    c.loop-record.invariant
