use Rattle.std.proofs.Common.{sym}
use Rattle.rw_pending.proofs.Places.{at_0, at_1, at_2, at_3, at_4}
use Rattle.rw_pending.proofs.wheel.slot_of.Goals as goal

pub returns-then-time-base-clause-slot : goal.returns-then-time-base-clause-slot
returns-then-time-base-clause-slot c = sym (at_0 c.args.base c.args.time c.if-time-base.true)

pub returns-then-time-base-2-clause-slot : goal.returns-then-time-base-2-clause-slot
returns-then-time-base-2-clause-slot c = sym (at_1 c.args.base c.args.time c.if-time-base.false c.if-time-base-2.true)

pub returns-then-time-base-3-clause-slot : goal.returns-then-time-base-3-clause-slot
returns-then-time-base-3-clause-slot c = sym (at_2 c.args.base c.args.time c.if-time-base.false c.if-time-base-2.false c.if-time-base-3.true)

pub returns-then-time-base-4-clause-slot : goal.returns-then-time-base-4-clause-slot
returns-then-time-base-4-clause-slot c = sym (at_3 c.args.base c.args.time c.if-time-base.false c.if-time-base-2.false c.if-time-base-3.false c.if-time-base-4.true)

pub returns-else-time-base-4-clause-slot : goal.returns-else-time-base-4-clause-slot
returns-else-time-base-4-clause-slot c =
    sym (at_4 c.args.base c.args.time c.requires.from c.requires.within c.if-time-base.false c.if-time-base-2.false c.if-time-base-3.false c.if-time-base-4.false)
