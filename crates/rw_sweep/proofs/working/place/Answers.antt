use Rattle.rw_sweep.proofs.Slots.{placed}
use Rattle.rw_sweep.proofs.working.place.Goals as goal

pub returns : goal.returns
returns c = placed c.args._rows.now c.args._points.now c.args.slots.now.items c.args.entry c.requires.slots c.requires.entry
