use Rattle.rw_pending.proofs.Wheels.{placed_none}
use Rattle.rw_pending.proofs.wheel.base_for.Goals as goal

pub returns-then-is_empty : goal.returns-then-is_empty
returns-then-is_empty g c = λ placed. placed_none 0 c.args.slots.now (c.is_empty.ensures.0 c.if-is_empty.true)
