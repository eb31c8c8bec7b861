use Rattle.std.proofs.Common.{◌≡◌, take}
use Rattle.rw_vt.specs.System.{map_from}
use Rattle.rw_photo.specs.Events.{event_of}
use Rattle.rw_photo.proofs.rows.requests_from.Given as goal

abbrev pub invariant-loop-index : goal.invariant-loop-index
invariant-loop-index l = l.events.items ≡ map_from l.first event_of (take l.index l.rows)
