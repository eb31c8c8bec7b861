use Rattle.std.proofs.Common.{◌≡◌, map}
use Rattle.rw_exchange.specs.Rings.{in_rings, in_received}
use Rattle.rw_exchange.proofs.lane.is_any_abandoned.Given as goal

abbrev pub invariant-loop-lane : goal.invariant-loop-lane
invariant-loop-lane g l = record {
  rings : in_rings l.lane-items ≡ in_rings l.initial.lane-items;
  received : map in_received l.lane-items ≡ map in_received l.initial.lane-items;
}
