use Rattle.std.specs.Prelude.{nat_eq}
use Rattle.std.specs.HashMap.{get}
use Rattle.rw_blocks.proofs.Maps.{nothing-taken}
use Rattle.rw_blocks.proofs.hints.Hints.remove.Goals as goal

pub returns-in_err-place : goal.returns-in_err-place
returns-in_err-place g c = record { updates = nothing-taken (get nat_eq c.args.map.now) c.args.serial c.in_err-place.ensures.none }
