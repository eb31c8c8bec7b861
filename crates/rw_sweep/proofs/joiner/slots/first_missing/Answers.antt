use Rattle.rw_sweep.proofs.Refusing.{empty-first, some-more}
use Rattle.rw_sweep.proofs.joiner.slots.first_missing.Goals as goal

pub returns-then-slot-eq0 : goal.returns-then-slot-eq0
returns-then-slot-eq0 c = empty-first c.args.slots.now c.loop-place.place c.index-slots-place.result c.loop-place-test.true c.index-slots-place.is c.loop-place.invariant c.if-slot-eq0.true

pub loop-place-preserved : goal.loop-place-preserved
loop-place-preserved c = some-more c.args.slots.now c.loop-place.place c.index-slots-place.result c.loop-place-test.true c.index-slots-place.is c.loop-place.invariant c.if-slot-eq0.false
