use Rattle.std.proofs.Common.{◌≡◌, ◌<◌, length, map, set, subst, sym, ap, ◌∙◌, arith}
use Rattle.std.proofs.lemmas.List.{length-map}
use Rattle.std.proofs.lemmas.List.Elements.{All-set}
use Rattle.std.proofs.lemmas.Result.{on_ok_weaker, on_err_weaker, IfErr-weaker}
use Rattle.rw_exchange.specs.Rings.{HasCapacity, out_ring, out_free}
use Rattle.rw_exchange.specs.Ports.{sent_to, free_to}
use Rattle.rw_exchange.proofs.Crossing.{out_end_there}
use Rattle.rw_exchange.proofs.Ends.{stays, sends, sends_nothing, sent_is, free_is, free_now, within_outs, err_too, one_less, same_sent}
use Rattle.rw_exchange.proofs.port.Port.send.Goals as goal

pub returns-clause-ok : goal.returns-clause-ok
returns-clause-ok g c = on_ok_weaker c.push.result
    (λ e. sends c.self.inside.worker c.self.inside.capacity c.self.inside.outs.items c.self.inside.ins.items c.args.self.now c.self.view_is c.args.to c.index_mut.result.now c.push.new.lane c.args.item (within_outs c.self.inside.worker c.self.inside.capacity c.self.inside.outs.items c.self.inside.ins.items c.args.self.now c.self.view_is c.args.to c.requires.other.0) c.index_mut.ensures.value c.push.ensures.ring e) c.push.ensures.ok

pub returns-clause-free : goal.returns-clause-free
returns-clause-free g c =
    let within : c.args.to < length c.self.inside.outs.items = within_outs c.self.inside.worker c.self.inside.capacity c.self.inside.outs.items c.self.inside.ins.items c.args.self.now c.self.view_is c.args.to c.requires.other.0 in
    let was : free_to c.args.self.now c.args.to ≡ out_free c.index_mut.result.now = free_is c.self.inside.worker c.self.inside.capacity c.self.inside.outs.items c.self.inside.ins.items c.args.self.now c.self.view_is c.args.to c.index_mut.result.now within c.index_mut.ensures.value in
    let is = free_now c.self.inside.worker c.self.inside.capacity c.self.inside.outs.items c.self.inside.ins.items c.args.self.now c.self.view_is c.args.to c.push.new.lane within in
    on_ok_weaker c.push.result (one_less _ _ _ _ was is) c.push.ensures.free

pub returns-clause-full : goal.returns-clause-full
returns-clause-full g c =
    let within : c.args.to < length c.self.inside.outs.items = within_outs c.self.inside.worker c.self.inside.capacity c.self.inside.outs.items c.self.inside.ins.items c.args.self.now c.self.view_is c.args.to c.requires.other.0 in
    on_err_weaker c.push.result (λ e. free_now c.self.inside.worker c.self.inside.capacity c.self.inside.outs.items c.self.inside.ins.items c.args.self.now c.self.view_is c.args.to c.push.new.lane within ∙ e.1) c.push.ensures.full

pub returns-clause-known : goal.returns-clause-known
returns-clause-known g c h =
    let within : c.args.to < length c.self.inside.outs.items = within_outs c.self.inside.worker c.self.inside.capacity c.self.inside.outs.items c.self.inside.ins.items c.args.self.now c.self.view_is c.args.to c.requires.other.0 in
    c.push.ensures.known (subst (λ n. 0 < n) (free_is c.self.inside.worker c.self.inside.capacity c.self.inside.outs.items c.self.inside.ins.items c.args.self.now c.self.view_is c.args.to c.index_mut.result.now within c.index_mut.ensures.value) h)

pub returns-clause-err : goal.returns-clause-err
returns-clause-err g c = IfErr-weaker c.push.result _ _
    (λ x e. (e.0.0, sends_nothing c.self.inside.worker c.self.inside.capacity c.self.inside.outs.items c.self.inside.ins.items c.args.self.now c.self.view_is c.args.to c.index_mut.result.now c.push.new.lane (within_outs c.self.inside.worker c.self.inside.capacity c.self.inside.outs.items c.self.inside.ins.items c.args.self.now c.self.view_is c.args.to c.requires.other.0) c.index_mut.ensures.value c.push.ensures.ring e.0.1 (e.1.1 ∙ sym e.1.0)))
    (err_too _ _ c.push.result c.push.ensures.err c.push.ensures.full)

pub returns-clause-succeeds : goal.returns-clause-succeeds
returns-clause-succeeds g c =
    let within : c.args.to < length c.self.inside.outs.items = within_outs c.self.inside.worker c.self.inside.capacity c.self.inside.outs.items c.self.inside.ins.items c.args.self.now c.self.view_is c.args.to c.requires.other.0 in
    let had : HasCapacity c.self.inside.capacity c.index_mut.result.now = subst (HasCapacity c.self.inside.capacity) (sym c.index_mut.ensures.value) (c.self.invariant.2 c.args.to c.index_mut.result.now within) in
    λ h. c.push.ensures.succeeds c.self.inside.capacity had (subst (λ z. length z < c.self.inside.capacity) (sent_is c.self.inside.worker c.self.inside.capacity c.self.inside.outs.items c.self.inside.ins.items c.args.self.now c.self.view_is c.args.to c.index_mut.result.now within c.index_mut.ensures.value) (subst (λ z. length (sent_to c.args.self.now c.args.to) < z) (ap (λ f. f.capacity) (sym c.self.view_is)) h))

pub returns-clause-same : goal.returns-clause-same
returns-clause-same g c = same_sent c.push.result c.args.self.now _ c.args.to c.args.item (returns-clause-ok g c) (returns-clause-err g c)

-- a port has the ends that it had
pub invariant_of-self : goal.invariant_of-self
invariant_of-self g c =
    let inv = c.self.invariant in
    let olds = c.self.inside.outs.items in
    let n = c.self.inside.capacity in
    let lt : c.args.to < length olds = within_outs c.self.inside.worker n olds c.self.inside.ins.items c.args.self.now c.self.view_is c.args.to c.requires.other.0 in
    let news = set olds c.args.to c.push.new.lane in
    let rings : map out_ring news ≡ map out_ring olds = stays out_ring olds c.args.to c.index_mut.result.now c.push.new.lane lt c.index_mut.ensures.value c.push.ensures.ring in
    let long : length news ≡ length olds = sym (length-map news out_ring) ∙ (ap length rings ∙ length-map olds out_ring) in
    let had : HasCapacity n c.index_mut.result.now = subst (HasCapacity n) (sym c.index_mut.ensures.value) (inv.2 c.args.to c.index_mut.result.now lt) in (
      inv.0 ∙ sym long,
      λ k within other. let old : k < length olds = omega (arith, long, within) in (out_end_there olds news k rings old (inv.1 k old other).0, (inv.1 k old other).1),
      All-set (HasCapacity n) olds c.args.to c.push.new.lane (c.push.ensures.capacity n had) inv.2,
    )
