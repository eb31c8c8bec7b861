use Rattle.std.proofs.Common.{◌≡◌, Some, not, ne_eqb, sym, ap, ◌∙◌}
use Rattle.rw_exchange.proofs.build.ends.Goals as goal

pub returns-clause-ring : goal.returns-clause-ring
returns-clause-ring g c =
    let out = c.pass.ensures.producer.0 in
    let into = c.pass.ensures.consumer.0 in
    let pair = c.in_ok-producer.ensures.pair in
    let words : c.pass.new.producer.end.words ≡ c.pass.new.consumer.end.words = out.0 ∙ (sym pair.0 ∙ sym into.0) in
    let slots : c.pass.new.producer.end.slots ≡ c.pass.new.consumer.end.slots = out.1 ∙ (sym pair.1 ∙ sym into.1) in
    let names : c.pass.new.producer.end.names ≡ c.pass.new.consumer.end.names = out.2 ∙ (sym pair.2 ∙ sym into.2) in
    λ i. Some (words i, (slots i, names i))

pub returns-clause-other : goal.returns-clause-other
returns-clause-other g c = sym (ap not (ne_eqb c.args.to c.args.from c.if-to-from.false))
