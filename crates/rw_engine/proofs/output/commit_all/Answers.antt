use Rattle.rw_engine.proofs.Taking.{taken_more}
use Rattle.rw_engine.proofs.output.commit_all.Goals as goal

pub loop-event-preserved : goal.loop-event-preserved
loop-event-preserved g c =
    taken_more g.O.Output.Takes c.args.output.now c.loop-event.output c.commit.new.self c.args.events.now c.loop-event.event-index c.event-item.result c.loop-event-test.true c.event-item.is c.loop-event.invariant c.commit.ensures
