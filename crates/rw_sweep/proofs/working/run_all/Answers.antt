use Rattle.rw_sweep.proofs.Slots.{empty-slots}
use Rattle.rw_sweep.proofs.working.run_all.Goals as goal

pub place_all-requires-clause-slots : goal.place_all-requires-clause-slots
place_all-requires-clause-slots g c = empty-slots c.args.batch.rows.now c.args.batch.points.now c.in_ok-slots.slots.items c.in_ok-slots.ensures
