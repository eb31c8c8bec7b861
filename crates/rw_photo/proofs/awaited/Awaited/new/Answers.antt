use Rattle.std.proofs.Common.{ap}
use Rattle.rw_blocks.specs.RowMap.{by_object}
use Rattle.rw_photo.proofs.awaited.Awaited.new.Goals as goal

pub returns : goal.returns
unfolding by_object
returns c = ap by_object c.new.ensures.empty
