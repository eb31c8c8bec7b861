use Rattle.std.proofs.Common.{◌≡◌, length, sym, ap, ◌∙◌, arith}
use Rattle.std.proofs.lemmas.List.{length-map}
use Rattle.rw_exchange.specs.Rings.{in_ring}
use Rattle.rw_exchange.proofs.Crossing.{end_there}
use Rattle.rw_exchange.proofs.port.Port.is_deserted.Goals as goal

-- a port has the ends that it had
pub invariant_of-self : goal.invariant_of-self
invariant_of-self g c =
    let inv = c.self.invariant in
    let olds = c.self.inside.ins.items in
    let news = c.is_any_abandoned.new.lanes.items in
    let rings = c.is_any_abandoned.ensures.rings in
    let long : length news ≡ length olds = sym (length-map news in_ring) ∙ (ap length rings ∙ length-map olds in_ring) in (
      long ∙ inv.0,
      λ k lt other. ((inv.1 k lt other).0, end_there olds news k rings (omega (arith, inv.0)) (inv.1 k lt other).1),
      inv.2,
    )
