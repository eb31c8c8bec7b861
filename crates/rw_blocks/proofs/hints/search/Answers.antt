use Rattle.rw_blocks.proofs.Maps.{own-entry}
use Rattle.rw_blocks.proofs.hints.search.Goals as goal

pub returns-clause-entry : goal.returns-clause-entry
returns-clause-entry g c =
    let e = c.in_ok-place.ensures in
    own-entry c.args.map.now c.in_ok-place.place c.args.serial c.in_ok-place.field-0-1.now c.in_ok-place.field-0-2.now e.key e.value e.entry
