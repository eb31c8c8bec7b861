use Rattle.std.proofs.Common.{◌≡◌, refl, sym, ◌∙◌, subst}
use Rattle.rw_exchange.specs.Ports.{IsOther, SamePort, after_sending, free_to, sent_to}
use Rattle.rw_windows.proofs.Ports.{same_port}
use Rattle.rw_windows.proofs.waiting.send_waiting.Goals as goal

pub loop-init : goal.loop-init
loop-init g c = record { port = refl; item = refl }

pub send-requires-clause-other : goal.send-requires-clause-other
send-requires-clause-other g c = subst (λ p. IsOther p c.args.to) (sym c.loop.invariant.port) c.requires.other

pub send-requires-clause-allowed : goal.send-requires-clause-allowed
send-requires-clause-allowed g c =
    let kept = c.loop.invariant in
    subst (λ p. g.P.Protocol.allows (sent_to p c.args.to) c.loop.item) (sym kept.port)
    (subst (λ x. g.P.Protocol.allows (sent_to c.args.port.now c.args.to) x) (sym kept.item) c.requires.allowed)

pub returns-in-Ok-clause-ok : goal.returns-in-Ok-clause-ok
returns-in-Ok-clause-ok g c =
    let kept = c.loop.invariant in
    subst (λ p. c.send.new.self ≡ after_sending p c.args.to c.args.item (free_to c.send.new.self c.args.to)) kept.port
    (subst (λ x. c.send.new.self ≡ after_sending c.loop.port c.args.to x (free_to c.send.new.self c.args.to)) kept.item c.in-Ok.ensures.ok)

pub returns-in-Ok-clause-same : goal.returns-in-Ok-clause-same
returns-in-Ok-clause-same g c = subst (λ p. SamePort p c.send.new.self) c.loop.invariant.port c.send.ensures.same

pub returns-then-is_deserted-clause-err : goal.returns-then-is_deserted-clause-err
returns-then-is_deserted-clause-err g c =
    let kept = c.loop.invariant in
    let back = c.in-Err.ensures.err in
    (back.0 ∙ kept.item, c.is_deserted.ensures.same ∙ back.1 ∙ kept.port)

pub returns-then-is_deserted-clause-same : goal.returns-then-is_deserted-clause-same
returns-then-is_deserted-clause-same g c =
    same_port c.args.port.now c.is_deserted.new.self (c.is_deserted.ensures.same ∙ c.in-Err.ensures.err.1 ∙ c.loop.invariant.port)

pub loop-preserved : goal.loop-preserved
loop-preserved g c =
    let kept = c.loop.invariant in
    let back = c.in-Err.ensures.err in
    record { port = c.is_deserted.ensures.same ∙ back.1 ∙ kept.port; item = back.0 ∙ kept.item }
