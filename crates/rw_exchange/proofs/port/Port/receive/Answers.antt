use Rattle.std.proofs.Common.{◌≡◌, ◌<◌, length, map, set, sym, ap, ◌∙◌, arith}
use Rattle.std.proofs.lemmas.List.{length-map}
use Rattle.rw_exchange.specs.Rings.{in_ring}
use Rattle.rw_exchange.proofs.Crossing.{end_there}
use Rattle.std.proofs.lemmas.Option.{IfSome_then}
use Rattle.rw_exchange.proofs.Ends.{if_none_then, receives, stays, within_ins, receives_nothing, same_received}
use Rattle.rw_exchange.proofs.port.Port.receive.Goals as goal

pub returns-clause-some : goal.returns-clause-some
returns-clause-some g c = IfSome_then c.pop.result c.pop.ensures.some
    (λ x e. receives c.self.inside.worker c.self.inside.capacity c.self.inside.outs.items c.self.inside.ins.items c.args.self.now c.self.view_is c.args.from c.index_mut.result.now c.pop.new.lane x (within_ins c.self.inside.worker c.self.inside.capacity c.self.inside.outs.items c.self.inside.ins.items c.args.self.now c.self.view_is c.args.from c.self.invariant.0 c.requires.other.0) c.index_mut.ensures.value c.pop.ensures.ring e)

pub returns-clause-none : goal.returns-clause-none
returns-clause-none g c = if_none_then c.pop.result
    (λ e. receives_nothing c.self.inside.worker c.self.inside.capacity c.self.inside.outs.items c.self.inside.ins.items c.args.self.now c.self.view_is c.args.from c.index_mut.result.now c.pop.new.lane (within_ins c.self.inside.worker c.self.inside.capacity c.self.inside.outs.items c.self.inside.ins.items c.args.self.now c.self.view_is c.args.from c.self.invariant.0 c.requires.other.0) c.index_mut.ensures.value c.pop.ensures.ring e) c.pop.ensures.none

pub returns-clause-same : goal.returns-clause-same
returns-clause-same g c = same_received c.pop.result c.args.self.now _ c.args.from (returns-clause-some g c) (returns-clause-none g c)

-- a port has the ends that it had
pub invariant_of-self : goal.invariant_of-self
invariant_of-self g c =
    let inv = c.self.invariant in
    let olds = c.self.inside.ins.items in
    let lt : c.args.from < length olds = within_ins c.self.inside.worker c.self.inside.capacity c.self.inside.outs.items olds c.args.self.now c.self.view_is c.args.from inv.0 c.requires.other.0 in
    let news = set olds c.args.from c.pop.new.lane in
    let rings : map in_ring news ≡ map in_ring olds = stays in_ring olds c.args.from c.index_mut.result.now c.pop.new.lane lt c.index_mut.ensures.value c.pop.ensures.ring in
    let long : length news ≡ length olds = sym (length-map news in_ring) ∙ (ap length rings ∙ length-map olds in_ring) in (
      long ∙ inv.0,
      λ k lt other. ((inv.1 k lt other).0, end_there olds news k rings (omega (arith, inv.0)) (inv.1 k lt other).1),
      inv.2,
    )
